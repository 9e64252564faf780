-- Local states that stand for what they have taken, and the groups of all rows.
use Rattle.std.specs.Prelude.{◌≡◌, ◌<◌, ℕ, List, [], map, filter, flat_map, length, bytes_eq}
use Rattle.std.specs.List.{All}
use Rattle.col_core.specs.Tables.{Column}
use Rattle.reduce_model.specs.Folds.{fold_of, reduced_type}
use Rattle.reduce_states.specs.States.{State}
use Rattle.reduce_states.specs.Reductions.{Shape}
use Rattle.list_laws.specs.Distinct.{distinct}
use Rattle.list_laws.specs.Orders.{taken}
use Rattle.list_laws.specs.Places.{EachFrom, PairsFrom}
use Rattle.join_laws.specs.Locals.{Entry, block, rows_of_morsels, of_key}
use Rattle.group_locals.specs.declared.groups.Groups.{Groups}
use Rattle.group_locals.specs.declared.local.LocalState.{LocalState}
use Rattle.group_locals.specs.Rows.{KeyedRow, values_for, entry_key, column_state, first_number}
use Rattle.group_locals.specs.Locals.{Grouping}
use Rattle.group_locals.specs.Orders.{ordered_keys}

-- a local state is that of some entries
pub record LocalHolds {R : Type 0} (holds : R → List State → Type 0) (of : Grouping) (es : List (Entry KeyedRow)) (l : LocalState R) : Type 0 where
  pub keys_are : l.grouper.keys ≡ distinct bytes_eq (map entry_key es)
  pub firsts_are : l.first_rows ≡ map (λ k. first_number (of_key bytes_eq entry_key es k)) l.grouper.keys
  pub states_are : PairsFrom (λ r s a. holds a (map (λ k. column_state s r (of_key bytes_eq entry_key es k)) l.grouper.keys)) 0 of.shapes l.reductions

-- what local state s of n has taken of the morsels in an order
abbrev pub taken_by : List (List KeyedRow) → ℕ → List ℕ → ℕ → List (Entry KeyedRow)
taken_by ms n order s = flat_map (block ms) (taken n order s)

-- each of n local states is that of the morsels in an order that are its
abbrev pub LocalsHold : {R : Type 0} → (R → List State → Type 0) → Grouping → List (List KeyedRow) → ℕ → List ℕ → List (LocalState R) → Type 0
LocalsHold holds of ms n order locals = EachFrom (λ s l. LocalHolds holds of (taken_by ms n order s) l) 0 locals

-- the keys of all rows, by first appearance
abbrev pub all_keys : List (List KeyedRow) → List (List ℕ)
all_keys ms = distinct bytes_eq (map (λ row. row.key) (rows_of_morsels ms))

-- the rows of a key, in their order
abbrev pub rows_with : List (List KeyedRow) → List ℕ → List KeyedRow
rows_with ms k = filter (λ row. bytes_eq row.key k) (rows_of_morsels ms)

-- a column of the groups of all rows: what reduction r gives for the rows of each key
pub record GroupColumn (ms : List (List KeyedRow)) (r : ℕ) (s : Shape) (c : Column) : Type 0 where
  pub name_is : c.name ≡ []
  pub dtype_is : c.dtype ≡ reduced_type s.kind s.dtype
  pub values_are : c.values ≡ map (λ k. fold_of s.kind s.dtype (values_for r (rows_with ms k))) (all_keys ms)

-- the groups of all rows of the morsels, by first appearance
pub record AreGroupsOf (of : Grouping) (ms : List (List KeyedRow)) (g : Groups) : Type 0 where
  pub schema_is : g.grouper.schema ≡ of.schema
  pub inside : All (λ i. i < length g.grouper.keys) g.order
  pub keys_are : ordered_keys g ≡ all_keys ms
  pub columns_are : PairsFrom (GroupColumn ms) 0 of.shapes g.columns
