use Rattle.std.proofs.Common.{Some, false, ap, sym, ◌∙◌}
use Rattle.std.proofs.lemmas.Option.{slice_get-get_or}
use Rattle.col_arrays.proofs.Items.{value_at, place_within}
use Rattle.col_arrays.proofs.boolean.BooleanArray.get.Goals as goal

pub returns-then-get : goal.returns-then-get
returns-then-get c =
    let xs = c.self.inside.stored in
    let validity = c.self.inside.validity in
    let within = place_within xs validity c.args.self.now c.args.i c.self.invariant c.self.view_is c.requires in
    value_at xs validity c.args.self.now c.args.i c.get-value.result _ c.self.invariant c.self.view_is (slice_get-get_or xs c.args.i false within ∙ ap Some (sym c.get-value.ensures)) (sym c.get.ensures ∙ c.if-get.true)

pub returns-else-get : goal.returns-else-get
returns-else-get c =
    let xs = c.self.inside.stored in
    let validity = c.self.inside.validity in
    let within = place_within xs validity c.args.self.now c.args.i c.self.invariant c.self.view_is c.requires in
    value_at xs validity c.args.self.now c.args.i c.get-value.result _ c.self.invariant c.self.view_is (slice_get-get_or xs c.args.i false within ∙ ap Some (sym c.get-value.ensures)) (sym c.get.ensures ∙ c.if-get.false)
