-- Morsels of joined rows as local states take them.
use Rattle.std.proofs.Common.{◌≡◌, ℕ, ◌+◌, ◌<◌, ◌≤◌, eqb, List, [], ◌∷◌, ◌++◌, ◌%◌, map, filter, flat_map, length, get_or, take, refl, sym, ap, ap₂, ◌∙◌, subst, arith}
use Rattle.std.specs.List.{range_with_len}
use Rattle.std.proofs.lemmas.List.{length-map, map-append, take-append-le, get_or_append_left}
use mathlib.Core.List.{map-map}
use Rattle.col_core.specs.Tables.{Row}
use Rattle.list_laws.specs.Each.{Each}
use Rattle.list_laws.specs.Orders.{IsWhole, taken}
use Rattle.list_laws.proofs.Each.{Each-filter}
use Rattle.list_laws.proofs.Lists.{take_map}
use Rattle.list_laws.proofs.Maps.{flat_map_same, get_or_map_all}
use Rattle.list_laws.proofs.Ranges.{Each-range}
use Rattle.join_laws.specs.Locals.{Entry, block, entries_from, first_row, rows_of_morsels}
use Rattle.join_query.specs.declared.query.Query.{Query}
use Rattle.group_locals.specs.Rows.{KeyedRow, entry_key}
use Rattle.group_locals.specs.History.{taken_by}
use Rattle.join_groups.specs.Keyed.{group_bytes, keyed_row}
use Rattle.join_groups.specs.History.{keyed_morsels, rows_in}

-- the rows of all morsels, keyed
pub morsels_keyed : (q : Query) (ms : List (List Row)) → rows_of_morsels (keyed_morsels q ms) ≡ map (keyed_row q) (rows_of_morsels ms)
morsels_keyed q [] = refl
morsels_keyed q (m ∷ ms) = ap (λ (rows : List KeyedRow). map (keyed_row q) m ++ rows) (morsels_keyed q ms) ∙ sym (map-append (keyed_row q) m (rows_of_morsels ms))

-- a morsel, and the number of the rows before it
pub morsel_at : (q : Query) (ms : List (List Row)) (i : ℕ) → get_or (keyed_morsels q ms) i [] ≡ map (keyed_row q) (get_or ms i [])
morsel_at q ms i = get_or_map_all (map (keyed_row q)) ms i []

pub first_at : (q : Query) (ms : List (List Row)) (i : ℕ) → first_row (keyed_morsels q ms) i ≡ first_row ms i
first_at q ms i =
    ap (λ (xs : List (List KeyedRow)). length (rows_of_morsels xs)) (take_map (map (keyed_row q)) i ms)
    ∙ ap length (morsels_keyed q (take i ms)) ∙ length-map (rows_of_morsels (take i ms)) (keyed_row q)

-- the entries of a morsel
pub block_is : (q : Query) (ms : List (List Row)) (i : ℕ) → block (keyed_morsels q ms) i ≡ entries_from i (first_row ms i) (map (keyed_row q) (get_or ms i []))
block_is q ms i = ap₂ (entries_from i) (first_at q ms i) (morsel_at q ms i)

entry_keys : (q : Query) (m n : ℕ) (rows : List Row) → map entry_key (entries_from m n (map (keyed_row q) rows)) ≡ map (group_bytes q) rows
entry_keys q m n [] = refl
entry_keys q m n (row ∷ rows) = ap (λ (ks : List (List ℕ)). group_bytes q row ∷ ks) (entry_keys q m (n + 1) rows)

-- the keys of the entries of some morsels are those of their rows
pub keys_in_order : (q : Query) (ms : List (List Row)) (js : List ℕ) → map entry_key (flat_map (block (keyed_morsels q ms)) js) ≡ map (group_bytes q) (rows_in ms js)
keys_in_order q ms [] = refl
keys_in_order q ms (j ∷ js) =
    map-append entry_key (block (keyed_morsels q ms) j) (flat_map (block (keyed_morsels q ms)) js)
    ∙ ap₂ (λ (a b : List (List ℕ)). a ++ b) (ap (map entry_key) (block_is q ms j) ∙ entry_keys q j (first_row ms j) (get_or ms j [])) (keys_in_order q ms js)
    ∙ sym (map-append (group_bytes q) (get_or ms j []) (rows_in ms js))

-- a morsel more at the end changes no earlier one
module _ {R : Type 0} (ms : List (List R)) (m : List R) where
  pub before : (i : ℕ) → i ≤ length ms → first_row (ms ++ m ∷ []) i ≡ first_row ms i
  before i l = ap (λ (xs : List (List R)). length (rows_of_morsels xs)) (take-append-le i ms (m ∷ []) l)

  block_before : (i : ℕ) → i < length ms → block (ms ++ m ∷ []) i ≡ block ms i
  block_before i l = ap₂ (entries_from i) (before i (omega arith)) (get_or_append_left ms (m ∷ []) [] i l)

  pub blocks_before : (n s k : ℕ) → k ≤ length ms → flat_map (block (ms ++ m ∷ [])) (taken n (range_with_len 0 k) s) ≡ flat_map (block ms) (taken n (range_with_len 0 k) s)
  blocks_before n s k l = flat_map_same (block (ms ++ m ∷ [])) (block ms) (taken n (range_with_len 0 k) s) (Each-filter (λ i. block (ms ++ m ∷ []) i ≡ block ms i) (λ i. eqb (i % n) s) (range_with_len 0 k) (Each-range (λ i. block (ms ++ m ∷ []) i ≡ block ms i) 0 k (λ i a b. block_before i (omega arith))))
