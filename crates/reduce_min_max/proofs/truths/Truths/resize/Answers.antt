use Rattle.std.proofs.Common.{◌≡◌, max, false, Bool, List, None, length, ap, ap₂, ◌∙◌, arith}
use Rattle.std.proofs.lemmas.Result.{on_ok_weaker, on_err_weaker}
use Rattle.reduce_states.specs.Moves.{cut_or_filled}
use Rattle.reduce_min_max.specs.Truths.{optional_bits}
use Rattle.reduce_min_max.proofs.OptionalBits.{more_same, more_resized, max_is}
use Rattle.reduce_min_max.proofs.truths.Truths.resize.Goals as goal

pub returns-clause-ok : goal.returns-clause-ok
returns-clause-ok c =
    let vs = c.self.inside.values in
    let ms = c.self.inside.mask in
    let more = c.resize.new.self in
    let n = c.args.n in
    let is : more ≡ cut_or_filled false vs (max n (length vs)) = c.in_ok-resize.ensures.ok ∙ ap (cut_or_filled false vs) (c.max-bits.ensures ∙ max_is n c.len.result ∙ ap (max n) c.len.ensures) in
    on_ok_weaker c.resize-2.result (λ e. more_resized vs more ms n c.self.invariant is c.resize-2.new.self e ∙ ap (λ bs. cut_or_filled None bs n) c.self.view_is) c.resize-2.ensures.ok

pub returns-clause-err : goal.returns-clause-err
returns-clause-err c =
    let vs = c.self.inside.values in
    let ms = c.self.inside.mask in
    let more = c.resize.new.self in
    let n = c.args.n in
    let is : more ≡ cut_or_filled false vs (max n (length vs)) = c.in_ok-resize.ensures.ok ∙ ap (cut_or_filled false vs) (c.max-bits.ensures ∙ max_is n c.len.result ∙ ap (max n) c.len.ensures) in
    on_err_weaker c.resize-2.result (λ e. ap (optional_bits more) e ∙ more_same vs more ms n c.self.invariant is ∙ c.self.view_is) c.resize-2.ensures.err
