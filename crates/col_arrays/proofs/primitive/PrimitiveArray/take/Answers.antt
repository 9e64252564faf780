use Rattle.std.proofs.Common.{◌≡◌, length, map, slice_get, Some, ap, sym, ◌∙◌}
use Rattle.col_arrays.proofs.Items.{taken_items, within_parts, length-taken, taken_hold}
use Rattle.col_arrays.proofs.primitive.PrimitiveArray.take.Goals as goal

pub take_values-requires : goal.take_values-requires
take_values-requires g c = within_parts c.self.inside.stored.items c.self.inside.validity c.args.self.now c.args.idxs.now (length c.deref.result.now) c.self.invariant.0 c.self.view_is (ap length c.deref.ensures.value) c.requires

pub take-requires : goal.take-requires
take-requires g c = within_parts c.self.inside.stored.items c.self.inside.validity c.args.self.now c.args.idxs.now (length c.self.inside.validity) c.self.invariant.0 c.self.view_is c.self.invariant.0 c.requires

pub returns : goal.returns
returns g c =
    taken_items c.self.inside.stored.items c.self.inside.validity c.args.idxs.now c.in_ok-stored.stored.items c.in_ok-validity.validity c.self.invariant.0 (c.in_ok-stored.ensures ∙ ap (λ xs. map (slice_get xs) c.args.idxs.now) c.deref.ensures.value) c.in_ok-validity.ensures
    ∙ ap (λ items. map (slice_get items) c.args.idxs.now) c.self.view_is

pub invariant_of-result : goal.invariant_of-result
invariant_of-result g c =
    let stored = c.self.inside.stored.items in
    let taken : map Some c.in_ok-stored.stored.items ≡ map (slice_get stored) c.args.idxs.now =
    c.in_ok-stored.ensures ∙ ap (λ xs. map (slice_get xs) c.args.idxs.now) c.deref.ensures.value in
    let IsNumber : g.row.T.Denot → Type 0 = λ x. g.T.Number.fits (g.T.Number.value x) in (
      length-taken c.self.inside.validity c.args.idxs.now c.in_ok-validity.validity c.in_ok-validity.ensures ∙ sym (length-taken stored c.args.idxs.now c.in_ok-stored.stored.items taken),
      taken_hold IsNumber stored c.args.idxs.now c.in_ok-stored.stored.items c.self.invariant.1 taken,
    )
