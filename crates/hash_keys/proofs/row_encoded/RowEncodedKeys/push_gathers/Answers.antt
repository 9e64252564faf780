use Rattle.std.proofs.Common.{◌≡◌, ℕ, ◌+◌, ◌<◌, ◌^◌, ◌++◌, List, Option, Some, length, map, refl, ap, ◌∙◌, arith}
use Rattle.std.specs.Prelude.{slice_index}
use Rattle.std.specs.List.{range_with_len}
use Rattle.std.proofs.lemmas.List.{length-set}
use Rattle.key_parts.specs.Partitions.{partition_of}
use Rattle.key_parts.specs.Positions.{Position, position}
use Rattle.hash_keys.specs.Keys.{key_at}
use Rattle.hash_keys.specs.Gathered.{count_in, positions_from}
use Rattle.hash_keys.proofs.Gathered.{start_of, counts_from, count_in_few, gathered_more, kept_on}
use Rattle.hash_keys.proofs.row_encoded.RowEncodedKeys.push_gathers.Goals as goal

pub push_positions-requires-clause-few : goal.push_positions-requires-clause-few
push_positions-requires-clause-few c =
    let part : ℕ → ℕ = λ i. partition_of c.args.self.now.state c.args.partitioner.now (key_at c.args.self.now.keys i) in
    let count : ℕ → ℕ = slice_index c.args.gathers_per_key.now in
    let inside : c.partition-partition.result < length c.loop-i.next.items = omega arith in
    let within : c.loop-i.i < length c.args.self.now.keys = omega arith in
    let s : c.index-start.result.now ≡ count_in part count (part c.loop-i.i) (range_with_len 0 c.loop-i.i) =
    start_of part count c.loop-i.next.items c.loop-i.i c.partition-partition.result c.index-start.result.now inside c.partition-partition.ensures.partition c.index-start.ensures c.loop-i.invariant.next in
    let t : count_in part count (part c.loop-i.i) (range_with_len 0 c.loop-i.i) + count c.loop-i.i < 2 ^ 32 =
    count_in_few part count (part c.loop-i.i) c.loop-i.i (length c.args.self.now.keys) (2 ^ 32) within refl (c.requires.few (part c.loop-i.i)) in
    omega (arith, s, t)

pub overflow_add-start : goal.overflow_add-start
overflow_add-start c =
    let part : ℕ → ℕ = λ i. partition_of c.args.self.now.state c.args.partitioner.now (key_at c.args.self.now.keys i) in
    let count : ℕ → ℕ = slice_index c.args.gathers_per_key.now in
    let inside : c.partition-partition.result < length c.loop-i.next.items = omega arith in
    let within : c.loop-i.i < length c.args.self.now.keys = omega arith in
    let s : c.index-start.result.now ≡ count_in part count (part c.loop-i.i) (range_with_len 0 c.loop-i.i) =
    start_of part count c.loop-i.next.items c.loop-i.i c.partition-partition.result c.index-start.result.now inside c.partition-partition.ensures.partition c.index-start.ensures c.loop-i.invariant.next in
    let t : count_in part count (part c.loop-i.i) (range_with_len 0 c.loop-i.i) + count c.loop-i.i < 2 ^ 32 =
    count_in_few part count (part c.loop-i.i) c.loop-i.i (length c.args.self.now.keys) (2 ^ 32) within refl (c.requires.few (part c.loop-i.i)) in
    omega (arith, s, t)

pub loop-i-preserved : goal.loop-i-preserved
loop-i-preserved c =
    let part : ℕ → ℕ = λ i. partition_of c.args.self.now.state c.args.partitioner.now (key_at c.args.self.now.keys i) in
    let count : ℕ → ℕ = slice_index c.args.gathers_per_key.now in
    let inside : c.partition-partition.result < length c.loop-i.next.items = omega arith in
    let s : c.index-start.result.now ≡ count_in part count (part c.loop-i.i) (range_with_len 0 c.loop-i.i) =
    start_of part count c.loop-i.next.items c.loop-i.i c.partition-partition.result c.index-start.result.now inside c.partition-partition.ensures.partition c.index-start.ensures c.loop-i.invariant.next in
    let some : List Position → List (Option Position) = map (λ (x : Position). Some x) in
    record {
      so_far =
          gathered_more part count c.loop-i.i c.index-start.result.now (map position c.loop-i.gather_idxs.items) (map position c.args.gather_idxs.now.items) (map position c.push_positions.new.gather_idxs.items)
          s c.loop-i.invariant.so_far
          (c.in_ok-push_positions.ensures.ok ∙ ap (λ (q : ℕ). map position c.loop-i.gather_idxs.items ++ some (positions_from q c.index-start.result.now (count c.loop-i.i))) c.partition-partition.ensures.partition);
      kept = kept_on c.args.gather_idxs.now.items c.loop-i.gather_idxs.items c.push_positions.new.gather_idxs.items c.loop-i.invariant.kept c.in_ok-push_positions.ensures.kept;
      length = length-set c.loop-i.next.items c.partition-partition.result (c.index-start.result.now + count c.loop-i.i) ∙ c.loop-i.invariant.length;
      next = counts_from part count c.loop-i.next.items c.loop-i.i c.partition-partition.result c.index-start.result.now inside c.partition-partition.ensures.partition c.index-start.ensures c.loop-i.invariant.next;
    }
