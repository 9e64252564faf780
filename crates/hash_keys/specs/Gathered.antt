-- Keys at places, and the positions of rows that stand by partition.
use Rattle.std.specs.Prelude.{ℕ, ◌+◌, ◌==◌, cond, List, [], ◌∷◌, ◌++◌, map, sum_by}
use Rattle.std.specs.List.{range_with_len}
use Rattle.key_parts.specs.Positions.{Position}
use Rattle.hash_keys.specs.Keys.{Key, key_at}

-- the keys at places
abbrev pub keys_at : List Key → List ℕ → List Key
keys_at keys idxs = map (key_at keys) idxs

-- how many positions some rows take in partition p
abbrev pub count_in : (ℕ → ℕ) → (ℕ → ℕ) → ℕ → List ℕ → ℕ
count_in part count p rows = sum_by (λ i. cond (part i == p) (count i) 0) rows

-- the next positions of each partition, after so many of partition p
abbrev pub bumped : (ℕ → ℕ) → ℕ → ℕ → ℕ → ℕ
bumped next p n r = cond (p == r) (next r + n) (next r)

-- so many positions of a partition from a number on
abbrev pub positions_from : ℕ → ℕ → ℕ → List Position
positions_from partition start n = map (λ j. record { chunk = partition; row = j }) (range_with_len start n)

-- for each row in order the next so many positions of its partition
abbrev pub numbered : (ℕ → ℕ) → (ℕ → ℕ) → List ℕ → (ℕ → ℕ) → List Position
numbered part count [] next = []
numbered part count (i ∷ is) next =
    positions_from (part i) (next (part i)) (count i) ++ numbered part count is (bumped next (part i) (count i))
