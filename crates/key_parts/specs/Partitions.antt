-- Which partition a hash, or a key, belongs to.
use Rattle.std.specs.Prelude.{ℕ, ◌≡◌, ◌<◌, ◌≤◌, ◌*◌, ◌/◌, ◌%◌, ◌^◌, List, Option, Some, None}
use Rattle.key_parts.specs.declared.hash.PlRandomState.{PlRandomState}
use Rattle.key_parts.specs.Hashes.{hash_of}

-- how hashes are dealt: among how many partitions, and the factor that spreads them
pub record Partitioner : Type 0 where
  pub partitions : ℕ
  pub factor : ℕ

-- there are some partitions, at most 65,536, and the factor is odd
pub record IsPartitioner (p : Partitioner) : Type 0 where
  pub some : 0 < p.partitions
  pub few : p.partitions ≤ 65536
  pub odd : p.factor % 2 ≡ 1

-- the partition of a hash: the high half of its spread word times the number of partitions
unfoldable pub partition_of_hash : Partitioner → ℕ → ℕ
partition_of_hash p h = h * p.factor % 2 ^ 64 * p.partitions / 2 ^ 64

-- the partition of a key, or 0 where there is none
unfoldable pub partition_of : PlRandomState → Partitioner → Option (List ℕ) → ℕ
partition_of state p None = 0
partition_of state p (Some key) = partition_of_hash p (hash_of state key)
