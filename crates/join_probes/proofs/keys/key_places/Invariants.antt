use Rattle.std.proofs.Common.{◌≡◌, Some, map, take}
use Rattle.col_core.specs.Schemas.{field_position}
use Rattle.join_probes.proofs.keys.key_places.Given as goal

abbrev pub invariant-loop-name : goal.invariant-loop-name
invariant-loop-name l = map (λ name. field_position name l.schema) (take l.name-index l.names) ≡ map (λ i. Some i) l.places.items
