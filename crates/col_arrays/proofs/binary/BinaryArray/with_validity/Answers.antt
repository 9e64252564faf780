use Rattle.std.proofs.Common.{◌≡◌, length, ap, sym, ◌∙◌}
use Rattle.col_arrays.proofs.Items.{length-items}
use Rattle.col_arrays.proofs.binary.BinaryArray.with_validity.Goals as goal

pub new-validity-requires : goal.new-validity-requires
new-validity-requires c =
    let long : c.len.result ≡ length c.args.self = c.len.ensures.len ∙ sym (length-items c.self.inside.stored c.self.inside.validity c.self.invariant) ∙ ap length c.self.view_is in
    rw long c.requires
