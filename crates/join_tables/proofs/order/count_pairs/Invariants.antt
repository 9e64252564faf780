use Rattle.std.proofs.Common.{◌≡◌, ℕ, ◌+◌, get_or, take, length, count_by}
use Rattle.join_laws.specs.Partitions.{is_of}
use Rattle.join_tables.proofs.order.count_pairs.Given as goal

abbrev pub invariant-loop-pair : goal.invariant-loop-pair
invariant-loop-pair l = record {
  long : length l.counts ≡ length l.fn.counts;
  so_far : (i : ℕ) → get_or l.counts i 0 ≡ get_or l.fn.counts i 0 + count_by (is_of i) (take l.pair-index l.pairs);
}
