use Rattle.std.proofs.Common.{◌≡◌, ℕ, ◌<◌, cond, List, [], Vec, Global, map, length, get_or, subst, ◌∙◌, arith}
use Rattle.std.proofs.lemmas.List.{length-map}
use Rattle.key_parts.specs.Hashes.{hash_of}
use Rattle.key_parts.specs.Partitions.{partition_of}
use Rattle.hash_keys.specs.Keys.{Key, key_at}
use Rattle.hash_keys.specs.Dealt.{deals_front, hash_in, sketched_front}
use Rattle.hash_keys.proofs.Dealt.{dealt_more, sketched_more, all_dealt, all_sketched, dealt_some}
use Rattle.hash_keys.proofs.row_encoded.RowEncodedKeys.deal_rows.Goals as goal

pub loop-i-preserved : goal.loop-i-preserved
loop-i-preserved c =
    let part : Key → ℕ = partition_of c.args.self.now.state c.args.partitioner.now in
    let items : Vec ℕ Global → List ℕ = λ v. v.items in
    record {
      lists = λ p below.
          dealt_more part c.args.partition_nulls c.args.self.now.keys c.loop-i.i p (get_or (map items c.loop-i.partition_idxs) p []) (get_or (map items c.deal_row.new.partition_idxs) p [])
          (c.loop-i.invariant.lists p below) (c.in_ok-deal_row.ensures.lists p);
      sketches = λ p below.
          sketched_more (λ j. cond c.args.build_sketches (hash_in part (hash_of c.args.self.now.state) p (key_at c.args.self.now.keys j)) []) c.loop-i.i (get_or c.args.sketches.now p []) (get_or c.loop-i.sketches p []) (get_or c.deal_row.new.sketches p [])
          (c.loop-i.invariant.sketches p below) (c.in_ok-deal_row.ensures.sketches p);
    }

pub returns-clause-lists : goal.returns-clause-lists
returns-clause-lists c =
    let part : Key → ℕ = partition_of c.args.self.now.state c.args.partitioner.now in
    let items : Vec ℕ Global → List ℕ = λ v. v.items in
    let lists = map items c.loop-i.partition_idxs in
    let P : ℕ → Type 0 = λ k. lists ≡ deals_front part c.args.partition_nulls c.args.partitioner.now.partitions c.args.self.now.keys k in
    let whole : c.loop-i.i ≡ length c.args.self.now.keys = omega arith in
    let long : length lists ≡ c.args.partitioner.now.partitions = omega (arith, length-map c.loop-i.partition_idxs items) in
    subst P whole (all_dealt part c.args.partition_nulls c.args.partitioner.now.partitions c.args.self.now.keys c.loop-i.i lists long c.loop-i.invariant.lists)

pub returns-clause-sketches : goal.returns-clause-sketches
returns-clause-sketches c =
    let part : Key → ℕ = partition_of c.args.self.now.state c.args.partitioner.now in
    let P : ℕ → Type 0 = λ k. c.loop-i.sketches ≡ cond c.args.build_sketches (sketched_front part (hash_of c.args.self.now.state) c.args.sketches.now c.args.self.now.keys k) c.args.sketches.now in
    let whole : c.loop-i.i ≡ length c.args.self.now.keys = omega arith in
    let long : length c.loop-i.sketches ≡ length c.args.sketches.now = omega arith in
    subst P whole (all_sketched part (hash_of c.args.self.now.state) c.args.build_sketches c.args.self.now.keys c.loop-i.i c.args.sketches.now c.loop-i.sketches long c.loop-i.invariant.sketches)

pub returns-in_err-deal_row-clause-err : goal.returns-in_err-deal_row-clause-err
returns-in_err-deal_row-clause-err c =
    let part : Key → ℕ = partition_of c.args.self.now.state c.args.partitioner.now in
    let hash : List ℕ → ℕ = hash_of c.args.self.now.state in
    let items : Vec ℕ Global → List ℕ = λ v. v.items in
    let below : c.loop-i.i < length c.args.self.now.keys = omega arith in
    let long : length (map items c.loop-i.partition_idxs) ≡ c.args.partitioner.now.partitions = omega (arith, length-map c.loop-i.partition_idxs items) in
    let same : length c.loop-i.sketches ≡ length c.args.sketches.now = omega arith in
    dealt_some c.from_residual.result part c.args.partition_nulls c.args.partitioner.now.partitions c.args.self.now.keys hash c.args.build_sketches
    (map items c.deal_row.new.partition_idxs) c.args.sketches.now c.deal_row.new.sketches c.loop-i.i below
    (c.in_err-deal_row.ensures.err ∙ all_dealt part c.args.partition_nulls c.args.partitioner.now.partitions c.args.self.now.keys c.loop-i.i (map items c.loop-i.partition_idxs) long c.loop-i.invariant.lists)
    (c.in_err-deal_row.ensures.untouched ∙ all_sketched part hash c.args.build_sketches c.args.self.now.keys c.loop-i.i c.args.sketches.now c.loop-i.sketches same c.loop-i.invariant.sketches)
