use Rattle.std.proofs.Common.{◌≡◌, Some, take, map}
use Rattle.join_model.specs.ColumnRefs.{place_of}
use Rattle.join_groups.proofs.keys.group_places.Given as goal

abbrev pub invariant-loop-column : goal.invariant-loop-column
invariant-loop-column l = map (place_of l.fn.query) (take l.column-index l.column-items) ≡ map (λ i. Some i) l.places.items
