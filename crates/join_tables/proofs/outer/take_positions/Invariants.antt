use Rattle.std.proofs.Common.{◌≡◌, List, ◌++◌, Some, map, take}
use Rattle.key_parts.specs.Positions.{Position, position}
use Rattle.join_laws.specs.Partitions.{row_of}
use Rattle.join_tables.proofs.outer.take_positions.Given as goal

abbrev pub invariant-loop-id : goal.invariant-loop-id
invariant-loop-id l = (xs : List Position) → map position l.ids ≡ map (λ x. Some x) xs → l.rows.items ≡ l.initial.rows.items ++ map (row_of l.places l.partition) (take l.id-index xs)
