-- The groups of all local states, by least first row.
use Rattle.std.specs.Prelude.{◌≡◌, ◌<◌, ℕ, List, [], map, length, bytes_eq, IsPermutation, slice_index_or}
use Rattle.std.specs.List.{range_with_len, All}
use Rattle.col_core.specs.Tables.{Column, values_at}
use Rattle.reduce_model.specs.Folds.{reduced_type}
use Rattle.reduce_states.specs.States.{State, out}
use Rattle.reduce_states.specs.Reductions.{Shape}
use Rattle.key_groups.specs.Groups.{keys_at}
use Rattle.list_laws.specs.Ascending.{Rises}
use Rattle.list_laws.specs.Places.{PairsFrom}
use Rattle.join_laws.specs.Locals.{Local, AreMergedKeys}
use Rattle.group_locals.specs.declared.groups.Groups.{Groups}
use Rattle.group_locals.specs.declared.local.LocalState.{LocalState}
use Rattle.group_locals.specs.Rows.{top}
use Rattle.group_locals.specs.Locals.{Grouping}
use Rattle.group_locals.specs.Merging.{AreColumns, first_column, merged_state}

-- what a reduction gives, its groups in an order
pub record FinishedColumn {R : Type 0} (shape : R → Shape) (holds : R → List State → Type 0) (order : List ℕ) (a : R) (c : Column) : Type 0 where
  pub name_is : c.name ≡ []
  pub dtype_is : c.dtype ≡ reduced_type (shape a).kind (shape a).dtype
  pub long : length c.values ≡ length order
  pub values_are : (xs : List State) → holds a xs → c.values ≡ values_at (map out xs) order

-- an order of so many groups by their first rows
pub record IsOrder (first_rows : List ℕ) (order : List ℕ) : Type 0 where
  pub whole : IsPermutation (range_with_len 0 (length first_rows)) order
  pub rises : Rises (λ g. slice_index_or first_rows g 0) order

-- the groups of a local state by their first rows
pub record AreOrderedGroups {R : Type 0} (shape : R → Shape) (holds : R → List State → Type 0) (l : LocalState R) (g : Groups) : Type 0 where
  pub grouper_is : g.grouper ≡ l.grouper
  pub order_is : IsOrder l.first_rows g.order
  pub columns : PairsFrom (λ r a c. FinishedColumn shape holds g.order a c) 0 l.reductions g.columns

-- the keys of groups, in their order
abbrev pub ordered_keys : Groups → List (List ℕ)
ordered_keys g = keys_at g.grouper.keys g.order

-- a column of merged groups with the keys ks: reduction r gives for each what the merge of its states gives
pub record MergedColumn {R : Type 0} (holds : R → List State → Type 0) (locals : List (LocalState R)) (ks : List (List ℕ)) (r : ℕ) (s : Shape) (c : Column) : Type 0 where
  pub name_is : c.name ≡ []
  pub dtype_is : c.dtype ≡ reduced_type s.kind s.dtype
  pub long : length c.values ≡ length ks
  pub values_are : (cs : List (Local (List ℕ) State)) → AreColumns holds r locals cs → c.values ≡ map (λ k. out (merged_state s cs k)) ks

-- the groups of all local states: each key once, by the least first row
pub record AreMergedGroups {R : Type 0} (holds : R → List State → Type 0) (of : Grouping) (locals : List (LocalState R)) (g : Groups) : Type 0 where
  pub schema_is : g.grouper.schema ≡ of.schema
  pub once : IsPermutation (range_with_len 0 (length g.grouper.keys)) g.order
  pub inside : All (λ i. i < length g.grouper.keys) g.order
  pub keys_are : AreMergedKeys bytes_eq top (map first_column locals) (ordered_keys g)
  pub columns_are : PairsFrom (MergedColumn holds locals (ordered_keys g)) 0 of.shapes g.columns
