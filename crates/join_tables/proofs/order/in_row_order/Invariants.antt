use Rattle.std.proofs.Common.{◌≡◌, ℕ, get_or, take, length, count_by}
use Rattle.std.specs.List.{flat_map}
use Rattle.hash_keys.specs.Views.{keys_of}
use Rattle.join_laws.specs.Partitions.{is_of}
use Rattle.join_tables.proofs.order.in_row_order.Given as goal

abbrev pub invariant-loop-pairs : goal.invariant-loop-pairs
invariant-loop-pairs l = record {
  long : length l.counts.items ≡ length (keys_of l.keys);
  so_far : (i : ℕ) → get_or l.counts.items i 0 ≡ count_by (is_of i) (flat_map (λ q. q.items) (take l.pairs-index l.found));
}
