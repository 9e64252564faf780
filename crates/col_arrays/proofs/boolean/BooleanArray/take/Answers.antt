use Rattle.std.proofs.Common.{length, map, slice_get, ap, ◌∙◌, refl}
use Rattle.col_arrays.proofs.Items.{taken_items, within_parts}
use Rattle.col_arrays.proofs.boolean.BooleanArray.take.Goals as goal

pub take-requires : goal.take-requires
take-requires c = within_parts c.self.inside.stored c.self.inside.validity c.args.self.now c.args.idxs.now (length c.self.inside.stored) c.self.invariant c.self.view_is refl c.requires

pub take-requires-2 : goal.take-requires-2
take-requires-2 c = within_parts c.self.inside.stored c.self.inside.validity c.args.self.now c.args.idxs.now (length c.self.inside.validity) c.self.invariant c.self.view_is c.self.invariant c.requires

pub returns : goal.returns
returns c =
    taken_items c.self.inside.stored c.self.inside.validity c.args.idxs.now c.in_ok-stored.stored c.in_ok-validity.validity c.self.invariant c.in_ok-stored.ensures c.in_ok-validity.ensures
    ∙ ap (λ items. map (slice_get items) c.args.idxs.now) c.self.view_is
