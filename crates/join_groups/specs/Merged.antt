-- The groups of all local states, as a table.
use Rattle.std.specs.Prelude.{◌≡◌, ℕ, List, [], ◌++◌, map, length, slice_index_or}
use Rattle.std.specs.List.{All, range_with_len}
use Rattle.col_core.specs.declared.leaf.Leaf.{Leaf}
use Rattle.col_core.specs.Tables.{Row, Table, row_at, values_of}
use Rattle.row_code.specs.Spelling.{IsRowOf, row_spelling}
use Rattle.reduce_states.specs.States.{State}
use Rattle.join_query.specs.declared.query.Query.{Query}
use Rattle.join_model.specs.Answers.{group_schema}
use Rattle.group_locals.specs.declared.groups.Groups.{Groups}
use Rattle.group_locals.specs.declared.local.LocalState.{LocalState}
use Rattle.group_locals.specs.Orders.{AreMergedGroups, ordered_keys}
use Rattle.join_groups.specs.Keyed.{group_fields, grouping_of_query}

-- each key with the values of columns beside it
abbrev pub beside : List Row → List (List Leaf) → List Row
beside keys columns = map (λ i. slice_index_or keys i [] ++ row_at columns i) (range_with_len 0 (length keys))

-- groups as a table: the tuples that their keys spell, in their order, and beside each what the reductions give
pub record AreGroupRows (q : Query) (groups : Groups) (t : Table) : Type 0 where
  pub keys : List Row
  pub fit : All (IsRowOf (group_fields q)) keys
  pub spelled : ordered_keys groups ≡ map (row_spelling (group_fields q)) keys
  pub table_is : t ≡ record { schema = group_schema q; rows = beside keys (values_of groups.columns) }

-- the groups of all local states as a table: each key once, by the least first row, and what the merge of its states gives
pub record AreMergedRows {R : Type 0} (holds : R → List State → Type 0) (q : Query) (locals : List (LocalState R)) (t : Table) : Type 0 where
  pub groups : Groups
  pub merged : AreMergedGroups holds (grouping_of_query q) locals groups
  pub rows : AreGroupRows q groups t
