use Rattle.std.proofs.Common.{take, ap, sym, ◌∙◌, arith, true}
use Rattle.col_arrays.specs.Items.{validity_of}
use Rattle.col_arrays.proofs.Items.{take-replicate}
use Rattle.col_arrays.proofs.validity.Validity.truncate.Goals as goal
use Rattle.col_arrays.proofs.validity.Validity.truncate.Goals.{in-Some, in_default}

pub returns-after-self : goal.returns-after-self
returns-after-self c =
    let n = c.args.n in
    let len = c.self.inside.len in
    elim c.match-self.branch [
      | in-Some w ↦ rw w.self-inside-is (w.truncate.ensures ∙ ap (take n) (sym (ap (validity_of len) w.in-Some.is) ∙ c.self.view_is))
      | in_default w ↦ rw w.self-inside-is (ap (validity_of n) w.in_default.is ∙ sym (take-replicate true len n (omega arith)) ∙ ap (take n) (sym (ap (validity_of len) w.in_default.is) ∙ c.self.view_is))
    ]
