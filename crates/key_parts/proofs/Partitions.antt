-- A partition is below the number of partitions.
use Rattle.std.proofs.Common.{◌≡◌, ℕ, ◌<◌, ◌≤◌, ◌*◌, ◌/◌, ◌%◌, ◌^◌, List, Option, Some, None, arith, lit<}
use Rattle.std.proofs.Math.Nat.{mul-lt-mul_of_pos_right, mul_comm, div-lt_iff_lt-mul}
use Rattle.key_parts.specs.declared.hash.PlRandomState.{PlRandomState}
use Rattle.key_parts.specs.Hashes.{hash_of}
use Rattle.key_parts.specs.Partitions.{Partitioner, partition_of_hash, partition_of}

-- part of a word, scaled
scaled_below : (w n : ℕ) → w < 2 ^ 64 → 0 < n → w * n / 2 ^ 64 < n
scaled_below w n below some =
    let more : w * n < 2 ^ 64 * n = mul-lt-mul_of_pos_right below some in
    let turned : w * n < n * 2 ^ 64 = omega arith in
    (div-lt_iff_lt-mul {k = 2 ^ 64} {x = w * n} {y = n} (lit< tt)).1 turned

pub partition_of_hash-below : (p : Partitioner) (h : ℕ) → 0 < p.partitions → partition_of_hash p h < p.partitions
unfolding partition_of_hash
partition_of_hash-below p h some = scaled_below (h * p.factor % 2 ^ 64) p.partitions (omega arith) some

pub partition_of-below : (state : PlRandomState) (p : Partitioner) (key : Option (List ℕ)) → 0 < p.partitions → partition_of state p key < p.partitions
unfolding partition_of
partition_of-below state p None some = some
partition_of-below state p (Some key) some = partition_of_hash-below p (hash_of state key) some
