use Rattle.std.proofs.Common.{◌≡◌, ℕ, ◌<◌, [], cond, map, get_or, length}
use Rattle.std.specs.List.{range_with_len, flat_map}
use Rattle.key_parts.specs.Hashes.{hash_of}
use Rattle.key_parts.specs.Partitions.{partition_of}
use Rattle.key_parts.specs.Sketches.{with_hashes}
use Rattle.hash_keys.specs.Keys.{key_at}
use Rattle.hash_keys.specs.Dealt.{dealt_front, hash_in}
use Rattle.hash_keys.proofs.row_encoded.RowEncodedKeys.deal_rows.Given as goal

-- what the first i rows are dealt to, list by list and sketch by sketch
abbrev pub invariant-loop-i : goal.invariant-loop-i
invariant-loop-i l = record {
  lists : (p : ℕ) → p < l.partitioner.partitions → get_or (map (λ v. v.items) l.partition_idxs) p [] ≡ dealt_front (partition_of l.self.state l.partitioner) l.partition_nulls l.self.keys l.i p;
  sketches : (p : ℕ) → p < length l.initial.sketches → get_or l.sketches p [] ≡ with_hashes (get_or l.initial.sketches p []) (flat_map (λ j. cond l.build_sketches (hash_in (partition_of l.self.state l.partitioner) (hash_of l.self.state) p (key_at l.self.keys j)) []) (range_with_len 0 l.i));
}
