use Rattle.std.proofs.Common.{ℕ, Bool, cond, ◌++◌, List, [], ◌∷◌, Vec, Global, map, get_or, sym, ap, ◌∙◌}
use Rattle.key_parts.specs.Hashes.{hash_of}
use Rattle.key_parts.specs.Partitions.{partition_of}
use Rattle.key_parts.specs.Sketches.{with_hashes}
use Rattle.hash_keys.specs.Keys.{Key, key_at}
use Rattle.hash_keys.specs.Dealt.{goes_to, hash_in}
use Rattle.hash_keys.proofs.Dealt.{goes_present, goes_null, hash_present, hash_is}
use Rattle.hash_keys.proofs.row_encoded.RowEncodedKeys.deal_row.Goals as goal

pub returns-then-build_sketches-clause-lists : goal.returns-then-build_sketches-clause-lists
returns-then-build_sketches-clause-lists c = λ p.
    let part : Key → ℕ = partition_of c.args.self.now.state c.args.partitioner.now in
    c.in_ok-push_row-in-Some.ensures.ok p
    ∙ ap (λ (t : List ℕ). get_or (map (λ (v : Vec ℕ Global). v.items) c.args.partition_idxs.now) p [] ++ t)
    (goes_present part c.args.partition_nulls p c.args.i c.partition-partition.result (key_at c.args.self.now.keys c.args.i) c.in-Some.field-0.now c.in-Some.ensures c.partition-partition.ensures.partition)

pub returns-else-build_sketches-clause-lists : goal.returns-else-build_sketches-clause-lists
returns-else-build_sketches-clause-lists c = λ p.
    let part : Key → ℕ = partition_of c.args.self.now.state c.args.partitioner.now in
    c.in_ok-push_row-in-Some.ensures.ok p
    ∙ ap (λ (t : List ℕ). get_or (map (λ (v : Vec ℕ Global). v.items) c.args.partition_idxs.now) p [] ++ t)
    (goes_present part c.args.partition_nulls p c.args.i c.partition-partition.result (key_at c.args.self.now.keys c.args.i) c.in-Some.field-0.now c.in-Some.ensures c.partition-partition.ensures.partition)

pub returns-then-build_sketches-clause-sketches : goal.returns-then-build_sketches-clause-sketches
returns-then-build_sketches-clause-sketches c = λ p.
    let part : Key → ℕ = partition_of c.args.self.now.state c.args.partitioner.now in
    let key : Key = key_at c.args.self.now.keys c.args.i in
    c.insert_hash.ensures p
    ∙ ap (with_hashes (get_or c.args.sketches.now p []))
    (hash_present part (hash_of c.args.self.now.state) p c.partition-partition.result c.hash-hash.result key c.in-Some.field-0.now c.in-Some.ensures c.partition-partition.ensures.partition
    (hash_is c.args.self.now.state key c.in-Some.field-0.now c.hash-hash.result c.in-Some.ensures c.hash-hash.ensures)
    ∙ ap (λ (b : Bool). cond b (hash_in part (hash_of c.args.self.now.state) p key) []) (sym c.if-build_sketches.true))

pub returns-in_ok-push_row-in-None-clause-lists : goal.returns-in_ok-push_row-in-None-clause-lists
returns-in_ok-push_row-in-None-clause-lists c = λ p.
    let part : Key → ℕ = partition_of c.args.self.now.state c.args.partitioner.now in
    let key : Key = key_at c.args.self.now.keys c.args.i in
    c.in_ok-push_row-in-None.ensures.ok p
    ∙ ap (λ (t : List ℕ). get_or (map (λ (v : Vec ℕ Global). v.items) c.args.partition_idxs.now) p [] ++ t)
    (goes_null part p c.args.i c.partition-partition.result key c.in-None.ensures c.partition-partition.ensures.partition
    ∙ ap (λ (b : Bool). cond (goes_to part b p key) (c.args.i ∷ []) []) (sym c.if-partition_nulls.true))
