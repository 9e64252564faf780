use Rattle.std.proofs.Common.{◌≡◌, ◌<◌, ℕ, [], length, vec_len, slice_get, IsSomeAnd, take}
use Rattle.group_parts.specs.Parts.{dealt}
use Rattle.group_parts.proofs.partition.partition_mask.Given as goal

abbrev pub invariant-loop-n : goal.invariant-loop-n
invariant-loop-n l = record {
  many : vec_len l.masks ≡ l.n-index;
  empty : (p : ℕ) → p < l.n-index → IsSomeAnd (slice_get l.masks.items p) (λ mask. mask ≡ []);
}

abbrev pub invariant-loop-p : goal.invariant-loop-p
invariant-loop-p l = record {
  index : l.i ≡ l.p-index;
  many : vec_len l.masks ≡ length l.partition_sizes;
  masks : (p : ℕ) → p < length l.partition_sizes → IsSomeAnd (slice_get l.masks.items p) (λ mask. mask ≡ dealt p (take l.p-index l.partition_idxs) (take l.p-index l.m));
}
