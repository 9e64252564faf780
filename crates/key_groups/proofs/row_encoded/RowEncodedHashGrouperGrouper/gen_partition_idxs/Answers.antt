use Rattle.std.proofs.Common.{◌≡◌, ℕ, ◌++◌, false, true, cond, List, [], ◌∷◌, Some, Vec, Global, map, length, get_or, sym, ap, subst, ◌∙◌, arith}
use Rattle.std.proofs.lemmas.List.{length-map}
use Rattle.key_parts.specs.Hashes.{hash_of}
use Rattle.key_parts.specs.Partitions.{partition_of}
use Rattle.key_parts.specs.Sketches.{with_hashes}
use Rattle.hash_keys.specs.Keys.{Key, key_at as row_key}
use Rattle.hash_keys.specs.Dealt.{goes_to, deals_front, hash_in, sketched_front}
use Rattle.hash_keys.proofs.Dealt.{dealt_more, sketched_more, all_dealt, all_sketched}
use Rattle.key_groups.specs.Dealt.{all_present}
use Rattle.key_groups.proofs.Index.{on_err}
use Rattle.key_groups.proofs.Kept.{present_at}
use Rattle.key_groups.proofs.row_encoded.RowEncodedHashGrouperGrouper.gen_partition_idxs.Goals as goal

pub loop-i-preserved : goal.loop-i-preserved
loop-i-preserved c =
    let part : Key → ℕ = partition_of c.args.self.now.state c.args.partitioner.now in
    let hash : List ℕ → ℕ = hash_of c.args.self.now.state in
    let keys : List Key = all_present c.args.self.now.keys in
    let items : Vec ℕ Global → List ℕ = λ v. v.items in
    let i = c.loop-i.i in
    let here = sym (present_at c.args.self.now.keys i (omega arith)) in
    record {
      lists = λ p below.
          let old = get_or (map items c.loop-i.partition_idxs) p [] in
          dealt_more part false keys i p old (get_or (map items c.deal_key.new.partition_idxs) p [])
          (c.loop-i.invariant.lists p below) (c.in_ok-deal_key.ensures.lists p ∙ ap (λ (k : Key). old ++ cond (goes_to part false p k) (i ∷ []) []) here);
      sketches = λ p below.
          let old = get_or c.loop-i.sketches p [] in
          sketched_more (λ j. hash_in part hash p (row_key keys j)) i (get_or c.args.sketches.now p []) old (get_or c.deal_key.new.sketches p [])
          (c.loop-i.invariant.sketches p below) (c.in_ok-deal_key.ensures.sketches p (omega arith) ∙ ap (λ (k : Key). with_hashes old (hash_in part hash p k)) here);
    }

pub returns-clause-lists : goal.returns-clause-lists
returns-clause-lists c =
    let part : Key → ℕ = partition_of c.args.self.now.state c.args.partitioner.now in
    let keys : List Key = all_present c.args.self.now.keys in
    let items : Vec ℕ Global → List ℕ = λ v. v.items in
    let lists = map items c.loop-i.partition_idxs in
    let P : ℕ → Type 0 = λ k. lists ≡ deals_front part false c.args.partitioner.now.partitions keys k in
    let whole : c.loop-i.i ≡ length keys = omega (arith, length-map c.args.self.now.keys (λ (k : List ℕ). Some k)) in
    let long : length lists ≡ c.args.partitioner.now.partitions = omega (arith, length-map c.loop-i.partition_idxs items) in
    subst P whole (all_dealt part false c.args.partitioner.now.partitions keys c.loop-i.i lists long c.loop-i.invariant.lists)

pub returns-clause-sketches : goal.returns-clause-sketches
returns-clause-sketches c =
    let part : Key → ℕ = partition_of c.args.self.now.state c.args.partitioner.now in
    let hash : List ℕ → ℕ = hash_of c.args.self.now.state in
    let keys : List Key = all_present c.args.self.now.keys in
    let P : ℕ → Type 0 = λ k. c.loop-i.sketches ≡ sketched_front part hash c.args.sketches.now keys k in
    let whole : c.loop-i.i ≡ length keys = omega (arith, length-map c.args.self.now.keys (λ (k : List ℕ). Some k)) in
    let long : length c.loop-i.sketches ≡ length c.args.sketches.now = omega arith in
    subst P whole (all_sketched part hash true keys c.loop-i.i c.args.sketches.now c.loop-i.sketches long c.loop-i.invariant.sketches)

pub returns-in_err-deal_key-clause-err : goal.returns-in_err-deal_key-clause-err
returns-in_err-deal_key-clause-err c =
    let part : Key → ℕ = partition_of c.args.self.now.state c.args.partitioner.now in
    let hash : List ℕ → ℕ = hash_of c.args.self.now.state in
    let keys : List Key = all_present c.args.self.now.keys in
    let items : Vec ℕ Global → List ℕ = λ v. v.items in
    let lists = map items c.loop-i.partition_idxs in
    let long : length lists ≡ c.args.partitioner.now.partitions = omega (arith, length-map c.loop-i.partition_idxs items) in
    let same : length c.loop-i.sketches ≡ length c.args.sketches.now = omega arith in
    on_err c.from_residual.result (record {
      dealt = c.loop-i.i;
      some_left = omega (arith, length-map c.args.self.now.keys (λ (k : List ℕ). Some k));
      lists_are = c.in_err-deal_key.ensures.err ∙ all_dealt part false c.args.partitioner.now.partitions keys c.loop-i.i lists long c.loop-i.invariant.lists;
      sketches_are = c.in_err-deal_key.ensures.untouched ∙ all_sketched part hash true keys c.loop-i.i c.args.sketches.now c.loop-i.sketches same c.loop-i.invariant.sketches;
    })
