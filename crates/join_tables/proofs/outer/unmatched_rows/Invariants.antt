use Rattle.std.proofs.Common.{◌≡◌, flat_map, get_or}
use Rattle.std.specs.List.{range_with_len}
use Rattle.join_laws.specs.Partitions.{item_rows, no_table}
use Rattle.join_tables.proofs.outer.unmatched_rows.Given as goal

abbrev pub invariant-loop-p : goal.invariant-loop-p
invariant-loop-p l = l.rows.items ≡ flat_map (λ p. item_rows l.built.places p (get_or l.built.tables p no_table)) (range_with_len 0 l.p)
