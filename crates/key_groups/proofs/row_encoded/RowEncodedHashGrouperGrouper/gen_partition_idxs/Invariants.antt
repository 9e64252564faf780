use Rattle.std.proofs.Common.{◌≡◌, ℕ, ◌<◌, [], false, map, get_or, length}
use Rattle.std.specs.List.{range_with_len, flat_map}
use Rattle.key_parts.specs.Hashes.{hash_of}
use Rattle.key_parts.specs.Partitions.{partition_of}
use Rattle.key_parts.specs.Sketches.{with_hashes}
use Rattle.hash_keys.specs.Keys.{key_at}
use Rattle.hash_keys.specs.Dealt.{dealt_front, hash_in}
use Rattle.key_groups.specs.Dealt.{all_present}
use Rattle.key_groups.proofs.row_encoded.RowEncodedHashGrouperGrouper.gen_partition_idxs.Given as goal

-- what the first i keys are dealt to, list by list and sketch by sketch
abbrev pub invariant-loop-i : goal.invariant-loop-i
invariant-loop-i l = record {
  lists : (p : ℕ) → p < l.partitioner.partitions → get_or (map (λ v. v.items) l.partition_idxs) p [] ≡ dealt_front (partition_of l.self.state l.partitioner) false (all_present l.self.keys) l.i p;
  sketches : (p : ℕ) → p < length l.fn.sketches → get_or l.sketches p [] ≡ with_hashes (get_or l.fn.sketches p []) (flat_map (λ j. hash_in (partition_of l.self.state l.partitioner) (hash_of l.self.state) p (key_at (all_present l.self.keys) j)) (range_with_len 0 l.i));
}
