-- Rows grouped in local states, and the states merged.
use Rattle.std.specs.Prelude.{◌≡◌, ℕ, ◌+◌, min, Bool, cond, List, [], ◌∷◌, map, filter, flat_map, fold, length, get_or, take}
use Rattle.std.specs.List.{list_any, range_with_len, position_or_len}
use Rattle.list_laws.specs.Ascending.{Rises}
use Rattle.list_laws.specs.Distinct.{NoRepeat, distinct, with_new}

-- a row with the number of its morsel and its number among all rows
pub record Entry (R : Type 0) : Type 0 where
  pub morsel : ℕ
  pub number : ℕ
  pub row : R

-- the rows of a morsel, the first of them numbered n
abbrev pub entries_from : {R : Type 0} → ℕ → ℕ → List R → List (Entry R)
entries_from m n [] = []
entries_from m n (r ∷ rs) = record { morsel = m; number = n; row = r } ∷ entries_from m (n + 1) rs

-- the rows of all morsels
abbrev pub rows_of_morsels : {R : Type 0} → List (List R) → List R
rows_of_morsels ms = flat_map (λ m. m) ms

-- the number of rows of all morsels of lower number
abbrev pub first_row : {R : Type 0} → List (List R) → ℕ → ℕ
first_row ms i = length (rows_of_morsels (take i ms))

-- the entries of morsel i
abbrev pub block : {R : Type 0} → List (List R) → ℕ → List (Entry R)
block ms i = entries_from i (first_row ms i) (get_or ms i [])

-- the entries of all morsels, by number
abbrev pub all_entries : {R : Type 0} → List (List R) → List (Entry R)
all_entries ms = flat_map (block ms) (range_with_len 0 (length ms))

-- what a column has for a key, or else d
abbrev pub at_key : {K V : Type 0} → (K → K → Bool) → List K → List V → K → V → V
at_key E keys values k d = get_or values (position_or_len (λ s. E s k) keys) d

-- the keys of a local state, and one value for each: its first row, or the state of one reduction
pub record Local (K V : Type 0) : Type 0 where
  pub keys : List K
  pub values : List V

-- the entries of a key
abbrev pub of_key : {X K : Type 0} → (K → K → Bool) → (X → K) → List X → K → List X
of_key E key xs k = filter (λ x. E (key x) k) xs

-- a local state is that of some entries, F being the value of a list of entries
pub record Holds {X K V : Type 0} (E : K → K → Bool) (key : X → K) (F : List X → V) (xs : List X) (l : Local K V) : Type 0 where
  pub keys_are : l.keys ≡ distinct E (map key xs)
  pub values_are : l.values ≡ map (λ k. F (of_key E key xs k)) l.keys

-- what group_morsel makes of a local state: new keys at the end, each value merged with that of the key's new entries
pub record Takes {X K V : Type 0} (E : K → K → Bool) (key : X → K) (F : List X → V) (M : V → V → V) (xs : List X) (l m : Local K V) : Type 0 where
  pub keys_are : m.keys ≡ fold (with_new E) l.keys (map key xs)
  pub values_are : m.values ≡ map (λ k. M (at_key E l.keys l.values k (F [])) (F (of_key E key xs k))) m.keys

-- a value of a key, merged with that of a local state where it has the key
abbrev pub merge_one : {K V : Type 0} → (K → K → Bool) → (V → V → V) → V → K → V → Local K V → V
merge_one E M empty k v l = cond (list_any (λ s. E s k) l.keys) (M v (at_key E l.keys l.values k empty)) v

-- the value of a key in all local states that have it, merged in their order
abbrev pub merged : {K V : Type 0} → (K → K → Bool) → (V → V → V) → V → List (Local K V) → K → V
merged E M empty locals k = fold (merge_one E M empty k) empty locals

-- the local states are those of lists of entries, one for one
abbrev pub HoldAll : {X K V : Type 0} → (K → K → Bool) → (X → K) → (List X → V) → List (List X) → List (Local K V) → Type 0
HoldAll E key F [] [] = Unit {0}
HoldAll E key F [] (l ∷ ls) = ⊥
HoldAll E key F (xs ∷ xss) [] = ⊥
HoldAll E key F (xs ∷ xss) (l ∷ ls) = Holds E key F xs l × HoldAll E key F xss ls

-- each key of a local state once, by the least first row
pub record AreMergedKeys {K : Type 0} (E : K → K → Bool) (top : ℕ) (locals : List (Local K ℕ)) (keys : List K) : Type 0 where
  pub apart : NoRepeat E keys
  pub members : (k : K) → list_any (λ s. E s k) keys ≡ list_any (λ l. list_any (λ s. E s k) l.keys) locals
  pub rises : Rises (merged E min top locals) keys
