-- Bytes that are cut at offsets.
use Rattle.std.specs.Prelude.{◌≡◌, ◌<◌, ◌+◌, ◌-◌, ◌^◌, ℕ, List, [], ◌∷◌, map, length, take, drop, slice_index}
use Rattle.std.specs.List.{All, range_with_len}
use Rattle.std.specs.List.Sorted.{IsNonDecreasing}

-- the bytes from an offset up to the next one
abbrev pub bytes_at : List ℕ → List ℕ → ℕ → List ℕ
bytes_at bytes offsets i = take (slice_index offsets (i + 1) - slice_index offsets i) (drop (slice_index offsets i) bytes)

-- the bytes between each offset and the next one
abbrev pub byte_items : List ℕ → List ℕ → List (List ℕ)
byte_items bytes offsets = map (bytes_at bytes offsets) (range_with_len 0 (length offsets - 1))

-- numbers that a byte can hold
abbrev pub AreBytes : List ℕ → Type 0
AreBytes bytes = All (λ b. b < 2 ^ 8) bytes

-- offsets that start at 0, ascend, and end at the number of bytes
pub record AreOffsets (bytes offsets : List ℕ) : Type 0 where
  pub some : 0 < length offsets
  pub start : slice_index offsets 0 ≡ 0
  pub ascend : IsNonDecreasing offsets
  pub end : slice_index offsets (length offsets - 1) ≡ length bytes

-- offsets as they are kept: while there is no item, the first offset may be left out
abbrev pub opened : List ℕ → List ℕ
opened [] = 0 ∷ []
opened (o ∷ offsets) = o ∷ offsets
