use Rattle.std.proofs.Common.{◌≡◌, ◌-◌, ◌≤◌, ◌++◌, map, take, length, flat_map}
use Rattle.chunked_idx_table.specs.Probes.{items}
use Rattle.join_laws.specs.Partitions.{row_of}
use Rattle.join_tables.proofs.outer.take_unmatched.Given as goal

abbrev pub invariant-loop-taken : goal.invariant-loop-taken
invariant-loop-taken l = record {
  front : l.done ≤ length (items l.table);
  so_far : l.rows.items ≡ l.initial.rows.items ++ map (row_of l.places l.partition) (flat_map (λ x. x) (take l.done (items l.table)));
}

abbrev pub decreases-loop-taken : goal.decreases-loop-taken
decreases-loop-taken l = length (items l.table) - l.done
