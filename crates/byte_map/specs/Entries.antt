-- A map from key bytes, as contracts see it: its entries, in order of insertion.
use Rattle.std.specs.Prelude.{◌≡◌, ◌<◌, ℕ, List, [], length, map, position, Option, bytes_eq, slice_index, slice_index_or}
use Rattle.list_laws.specs.Distinct.{NoRepeat}

-- a key with the hash that it came with, and its value
pub record Entry (V : Type 0) : Type 0 where
  pub hash : ℕ
  pub key : List ℕ
  pub value : V

-- a map
pub record Map (V : Type 0) : Type 0 where
  pub entries : List (Entry V)

abbrev pub keys_of : {V : Type 0} → List (Entry V) → List (List ℕ)
keys_of es = map (λ e. e.key) es

abbrev pub hashes_of : {V : Type 0} → List (Entry V) → List ℕ
hashes_of es = map (λ e. e.hash) es

abbrev pub values_of : {V : Type 0} → List (Entry V) → List V
values_of es = map (λ e. e.value) es

-- the index at which a key stands, none where it is absent
abbrev pub place : {V : Type 0} → List ℕ → List (Entry V) → Option ℕ
place key es = position (bytes_eq key) (keys_of es)

-- no key stands twice
abbrev pub AreDistinct : {V : Type 0} → List (Entry V) → Type 0
AreDistinct es = NoRepeat bytes_eq (keys_of es)

-- a key that is present comes with its kept hash
abbrev pub ComesWith : {V : Type 0} → List (Entry V) → ℕ → List ℕ → Type 0
ComesWith es hash key = (i : ℕ) → i < length es → slice_index_or (keys_of es) i [] ≡ key → slice_index (hashes_of es) i ≡ hash

-- what the iterator over a map gives of an entry
abbrev pub hash_keys_of : {V : Type 0} → List (Entry V) → List (ℕ × List ℕ)
hash_keys_of es = map (λ e. (e.hash, e.key)) es
