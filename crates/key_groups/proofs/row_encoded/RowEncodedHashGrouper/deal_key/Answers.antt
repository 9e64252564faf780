use Rattle.std.proofs.Common.{ℕ, ◌==◌, cond, ◌++◌, [], ◌∷◌, Vec, Global, map, get_or, ap, ap₂, ◌∙◌}
use Rattle.key_parts.specs.Hashes.{hash_of}
use Rattle.key_parts.specs.Sketches.{with_hashes}
use Rattle.key_groups.specs.Groups.{key_at}
use Rattle.key_groups.proofs.Kept.{part_is}
use Rattle.key_groups.proofs.row_encoded.RowEncodedHashGrouper.deal_key.Goals as goal

pub returns-then-not-is_empty-clause-lists : goal.returns-then-not-is_empty-clause-lists
returns-then-not-is_empty-clause-lists c = λ p.
    c.in_ok-push_row.ensures.ok p
    ∙ ap (λ (q : ℕ). get_or (map (λ (v : Vec ℕ Global). v.items) c.args.partition_idxs.now) p [] ++ cond (q == p) (c.args.i ∷ []) [])
    (part_is c.args.self.now.state c.args.partitioner.now c.hash_to_partition-partition.result c.hashed_key-hash.result.0 c.hashed_key-hash.result.1.now (key_at c.args.self.now.keys c.args.i) c.hash_to_partition-partition.ensures.partition c.hashed_key-hash.ensures.hash c.hashed_key-hash.ensures.key)

pub returns-else-not-is_empty-clause-lists : goal.returns-else-not-is_empty-clause-lists
returns-else-not-is_empty-clause-lists c = λ p.
    c.in_ok-push_row.ensures.ok p
    ∙ ap (λ (q : ℕ). get_or (map (λ (v : Vec ℕ Global). v.items) c.args.partition_idxs.now) p [] ++ cond (q == p) (c.args.i ∷ []) [])
    (part_is c.args.self.now.state c.args.partitioner.now c.hash_to_partition-partition.result c.hashed_key-hash.result.0 c.hashed_key-hash.result.1.now (key_at c.args.self.now.keys c.args.i) c.hash_to_partition-partition.ensures.partition c.hashed_key-hash.ensures.hash c.hashed_key-hash.ensures.key)

pub returns-then-not-is_empty-clause-sketches : goal.returns-then-not-is_empty-clause-sketches
returns-then-not-is_empty-clause-sketches c = λ p below.
    c.insert_hash.ensures p
    ∙ ap₂ (λ (q h : ℕ). with_hashes (get_or c.args.sketches.now p []) (cond (q == p) (h ∷ []) []))
    (part_is c.args.self.now.state c.args.partitioner.now c.hash_to_partition-partition.result c.hashed_key-hash.result.0 c.hashed_key-hash.result.1.now (key_at c.args.self.now.keys c.args.i) c.hash_to_partition-partition.ensures.partition c.hashed_key-hash.ensures.hash c.hashed_key-hash.ensures.key)
    (c.hashed_key-hash.ensures.hash ∙ ap (hash_of c.args.self.now.state) c.hashed_key-hash.ensures.key)
