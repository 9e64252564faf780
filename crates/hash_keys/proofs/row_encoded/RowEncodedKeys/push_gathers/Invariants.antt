use Rattle.std.proofs.Common.{◌≡◌, ℕ, ◌++◌, map, take, length, get_or, Some}
use Rattle.std.specs.List.{range_with_len}
use Rattle.std.specs.Prelude.{slice_index}
use Rattle.key_parts.specs.Partitions.{partition_of}
use Rattle.key_parts.specs.Positions.{position}
use Rattle.hash_keys.specs.Keys.{key_at}
use Rattle.hash_keys.specs.Gathered.{count_in, numbered}
use Rattle.hash_keys.proofs.row_encoded.RowEncodedKeys.push_gathers.Given as goal

-- the positions of the first i keys, and how many each partition has given
abbrev pub invariant-loop-i : goal.invariant-loop-i
invariant-loop-i l = record {
  so_far : map position l.gather_idxs.items ≡ map position l.initial.gather_idxs.items ++ map (λ x. Some x) (numbered (λ i. partition_of l.self.state l.partitioner (key_at l.self.keys i)) (slice_index l.gathers_per_key) (range_with_len 0 l.i) (λ _. 0));
  kept : take (length l.initial.gather_idxs.items) l.gather_idxs.items ≡ l.initial.gather_idxs.items;
  length : length l.next.items ≡ l.partitioner.partitions;
  next : (p : ℕ) → get_or l.next.items p 0 ≡ count_in (λ i. partition_of l.self.state l.partitioner (key_at l.self.keys i)) (slice_index l.gathers_per_key) p (range_with_len 0 l.i);
}
