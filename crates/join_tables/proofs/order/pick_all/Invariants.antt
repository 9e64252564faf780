use Rattle.std.proofs.Common.{◌≡◌, List, Some, map, take}
use Rattle.key_parts.specs.Positions.{Position, position}
use Rattle.join_laws.specs.Partitions.{pair_at}
use Rattle.join_tables.proofs.order.pick_all.Given as goal

abbrev pub invariant-loop-id : goal.invariant-loop-id
invariant-loop-id l = (xs : List Position) → map position l.ids ≡ map (λ x. Some x) xs → l.pairs.items ≡ map (pair_at (map (λ q. q.items) l.found)) (take l.id-index xs)
