-- A key more that comes with the hash.
use Rattle.std.proofs.Common.{◌≡◌, ℕ, zero, suc, ◌+◌, ◌<◌, List, [], ◌∷◌, ◌++◌, length, slice_index, refl, arith}
use Rattle.byte_map.specs.Entries.{Entry, hashes_of}
use Rattle.byte_map_tests.specs.Hashed.{HaveHash}

pub hash_pushed : (es : List (Entry ℕ)) (key : List ℕ) (value : ℕ) → HaveHash es → HaveHash (es ++ record { hash = 7; key = key; value = value } ∷ [])
hash_pushed es key value h = λ i l. at es h i l
  where
    at : (es : List (Entry ℕ)) → HaveHash es → (i : ℕ) → i < length (es ++ record { hash = 7; key = key; value = value } ∷ []) → slice_index (hashes_of (es ++ record { hash = 7; key = key; value = value } ∷ [])) i ≡ 7
    at [] h zero l = refl
    at [] h (suc i) l = absurd (omega arith)
    at (e ∷ es) h zero l = h 0 (omega arith)
    at (e ∷ es) h (suc i) l = at es (λ j m. h (suc j) (omega arith)) i (omega arith)
