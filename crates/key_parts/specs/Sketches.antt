-- The registers of a sketch.
use Rattle.std.specs.Prelude.{ℕ, ◌+◌, ◌*◌, ◌/◌, ◌^◌, max, List, [], ◌∷◌, map, zip, fold, set, replicate, slice_index, bit_and, bit_or}
use Rattle.std.specs.Int.{w64, trailing_zeros}

-- no hash was taken
abbrev pub no_hashes : List ℕ
no_hashes = replicate 16384 0

-- the register of a hash: its low 14 bits
abbrev pub register_of : ℕ → ℕ
register_of h = bit_and h 16383

-- the place of the lowest bit set in the other 50 bits, from 1, or 51 where none is
abbrev pub rank_of : ℕ → ℕ
rank_of h = trailing_zeros w64 (bit_or (h / 2 ^ 14) (2 ^ 50)) + 1

-- a hash more: its register becomes at least its rank
unfoldable pub with_hash : List ℕ → ℕ → List ℕ
with_hash registers h =
    set registers (register_of h) (max (slice_index registers (register_of h)) (rank_of h))

-- some hashes more, one after the other
abbrev pub with_hashes : List ℕ → List ℕ → List ℕ
with_hashes registers hashes = fold with_hash registers hashes

-- register by register the greatest
abbrev pub merged : List ℕ → List ℕ → List ℕ
merged mine theirs = map (λ p. max p.0 p.1) (zip mine theirs)
