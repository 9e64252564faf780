use Rattle.std.proofs.Common.{◌≡◌, ◌<◌, ◌≤◌, ℕ, [], length, vec_len, vec_capacity, slice_get, IsSomeAnd, take}
use Rattle.group_parts.specs.Parts.{dealt}
use Rattle.reduce_min_max.proofs.truths.Truths.dealt.Given as goal

abbrev pub invariant-loop-n : goal.invariant-loop-n
invariant-loop-n l = record {
  many : vec_len l.parts ≡ l.n-index;
  room : length l.partition_sizes ≤ vec_capacity l.parts;
  empty : (p : ℕ) → p < l.n-index → IsSomeAnd (slice_get l.parts.items p) (λ part. part ≡ []);
}

abbrev pub invariant-loop-i : goal.invariant-loop-i
invariant-loop-i l = record {
  many : vec_len l.parts ≡ length l.partition_sizes;
  parts : (p : ℕ) → p < length l.partition_sizes → IsSomeAnd (slice_get l.parts.items p) (λ part. part ≡ dealt p (take l.i l.partition_idxs) (take l.i l.self));
}
