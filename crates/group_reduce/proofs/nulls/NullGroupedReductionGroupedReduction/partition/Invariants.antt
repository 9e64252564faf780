use Rattle.std.proofs.Common.{◌≡◌, ◌<◌, ◌≤◌, ℕ, length, vec_len, vec_capacity, slice_get, slice_index_or, IsSomeAnd}
use Rattle.group_reduce.proofs.nulls.NullGroupedReductionGroupedReduction.partition.Given as goal

abbrev pub invariant-loop-n : goal.invariant-loop-n
invariant-loop-n l = record {
  many : vec_len l.parts ≡ l.n-index;
  room : length l.partition_sizes ≤ vec_capacity l.parts;
  parts : (p : ℕ) → p < l.n-index → IsSomeAnd (slice_get l.parts.items p) (λ r. (r.groups ≡ slice_index_or l.partition_sizes p 0) × (r.dtype ≡ l.self.dtype));
}
