-- What `find_or_push` answers and leaves.
use Rattle.std.specs.Prelude.{◌≡◌, ℕ, List, [], ◌∷◌, ◌++◌, length, Some, None}
use Rattle.byte_map.specs.Entries.{Entry, place}
use Rattle.byte_map.specs.declared.map.Found.{Found}
use Rattle.byte_map.specs.declared.map.Found.TheVariants.{Old, New}

-- where the key stands at i, its index and the value come back, and nothing changes; else the key is appended with its hash and value
abbrev pub Finds : {V : Type 0} → List (Entry V) → List (Entry V) → ℕ → List ℕ → V → Found V → Type 0
Finds old new hash key value (Old i v) = (place key old ≡ Some i) × (v ≡ value) × (new ≡ old)
Finds old new hash key value (New i) = (place key old ≡ None) × (i ≡ length old) × (new ≡ old ++ record { hash = hash; key = key; value = value } ∷ [])
