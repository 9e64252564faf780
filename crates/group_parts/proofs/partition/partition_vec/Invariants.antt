use Rattle.std.proofs.Common.{◌≡◌, ◌<◌, ◌≤◌, ℕ, [], length, vec_len, vec_capacity, slice_get, slice_index_or, IsSomeAnd, take, drop}
use Rattle.group_parts.specs.Parts.{dealt}
use Rattle.group_parts.proofs.partition.partition_vec.Given as goal

abbrev pub invariant-loop-n : goal.invariant-loop-n
invariant-loop-n g l = record {
  many : vec_len l.lists ≡ l.n-index;
  room : length l.partition_sizes ≤ vec_capacity l.lists;
  empty : (p : ℕ) → p < l.n-index → IsSomeAnd (slice_get l.lists.items p) (λ list. (list.items ≡ []) × (slice_index_or l.partition_sizes p 0 ≤ vec_capacity list));
}

abbrev pub invariant-loop-p : goal.invariant-loop-p
invariant-loop-p g l = record {
  rest : l.items.rest.items ≡ drop l.p-index l.fn.v.items;
  many : vec_len l.lists ≡ length l.partition_sizes;
  lists : (p : ℕ) → p < length l.partition_sizes → IsSomeAnd (slice_get l.lists.items p) (λ list.
      (list.items ≡ dealt p (take l.p-index l.partition_idxs) (take l.p-index l.fn.v.items)) × (slice_index_or l.partition_sizes p 0 ≤ vec_capacity list));
}
