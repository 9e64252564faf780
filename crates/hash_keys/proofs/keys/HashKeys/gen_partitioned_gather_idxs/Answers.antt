use Rattle.std.proofs.Common.{◌≡◌, ℕ, ◌<◌, ◌^◌, ◌++◌, List, Some, OnOk, length, map, sym, ap, ◌∙◌}
use Rattle.std.specs.Prelude.{slice_index}
use Rattle.std.specs.List.{range_with_len}
use Rattle.key_parts.specs.declared.hash.PlRandomState.{PlRandomState}
use Rattle.key_parts.specs.Partitions.{partition_of}
use Rattle.key_parts.specs.Positions.{Position, position}
use Rattle.hash_keys.specs.Keys.{Key, key_at}
use Rattle.hash_keys.specs.Views.{keys_of, state_of}
use Rattle.hash_keys.specs.Gathered.{count_in, numbered}
use Rattle.hash_keys.proofs.Gathered.{same_keys}
use Rattle.hash_keys.proofs.keys.HashKeys.gen_partitioned_gather_idxs.Goals as goal

pub gen_partitioned_gather_idxs-requires-clause-counts : goal.gen_partitioned_gather_idxs-requires-clause-counts
gen_partitioned_gather_idxs-requires-clause-counts c = c.requires.counts ∙ ap length (sym c.row_encoded-keys.ensures.keys)

pub gen_partitioned_gather_idxs-requires-clause-few : goal.gen_partitioned_gather_idxs-requires-clause-few
gen_partitioned_gather_idxs-requires-clause-few c =
    let P : PlRandomState → List Key → Type 0 = λ s ks. (p : ℕ) → count_in (λ i. partition_of s c.args.partitioner.now (key_at ks i)) (slice_index c.args.gathers_per_key.now) p (range_with_len 0 (length ks)) < 2 ^ 32 in
    same_keys P (state_of c.args.self.now) c.row_encoded-keys.result.now.state (keys_of c.args.self.now) c.row_encoded-keys.result.now.keys
    (sym c.row_encoded-keys.ensures.state) (sym c.row_encoded-keys.ensures.keys) c.requires.few

pub returns-clause-ok : goal.returns-clause-ok
returns-clause-ok c =
    let P : PlRandomState → List Key → Type 0 = λ s ks. OnOk c.gen_partitioned_gather_idxs.result (map position c.gen_partitioned_gather_idxs.new.gather_idxs.items ≡ map position c.args.gather_idxs.now.items ++ map (λ (x : Position). Some x) (numbered (λ i. partition_of s c.args.partitioner.now (key_at ks i)) (slice_index c.args.gathers_per_key.now) (range_with_len 0 (length ks)) (λ _. 0))) in
    same_keys P c.row_encoded-keys.result.now.state (state_of c.args.self.now) c.row_encoded-keys.result.now.keys (keys_of c.args.self.now)
    c.row_encoded-keys.ensures.state c.row_encoded-keys.ensures.keys c.gen_partitioned_gather_idxs.ensures.ok
