-- Local states that have taken morsels of joined rows.
use Rattle.std.specs.Prelude.{◌≡◌, ℕ, List, [], map, flat_map, length, slice_index_or}
use Rattle.std.specs.List.{range_with_len}
use Rattle.col_core.specs.Tables.{Row, Table}
use Rattle.row_code.specs.Spelling.{row_spelling}
use Rattle.reduce_states.specs.States.{State}
use Rattle.reduce_states.specs.Reductions.{Shape}
use Rattle.key_groups.specs.Groups.{KeyGroups}
use Rattle.list_laws.specs.Each.{Each}
use Rattle.list_laws.specs.Orders.{taken}
use Rattle.join_query.specs.declared.query.Query.{Query}
use Rattle.join_model.specs.Groups.{group_keys}
use Rattle.group_locals.specs.declared.local.LocalState.{LocalState}
use Rattle.group_locals.specs.Rows.{KeyedRow}
use Rattle.group_locals.specs.Locals.{LocalsFit}
use Rattle.group_locals.specs.History.{LocalsHold}
use Rattle.join_groups.specs.Keyed.{HasGroup, group_fields, grouping_of_query, keyed_row, plan_state}

-- morsels of rows as local states take them
abbrev pub keyed_morsels : Query → List (List Row) → List (List KeyedRow)
keyed_morsels q ms = map (map (keyed_row q)) ms

-- the rows of each morsel
abbrev pub morsel_rows : List Table → List (List Row)
morsel_rows morsels = map (λ m. m.rows) morsels

-- the rows of some morsels, in an order
abbrev pub rows_in : List (List Row) → List ℕ → List Row
rows_in ms order = flat_map (λ i. slice_index_or ms i []) order

-- local states of a query that have taken morsels in an order, and nothing else
pub record HaveTaken {R : Type 0} (shape : R → Shape) (holds : R → List State → Type 0) (q : Query) (ms : List (List Row)) (order : List ℕ) (locals : List (LocalState R)) : Type 0 where
  pub count : length locals ≡ q.plan.states
  pub fit : LocalsFit shape (grouping_of_query q) locals
  pub hold : LocalsHold holds (grouping_of_query q) (keyed_morsels q ms) q.plan.states order locals
  pub spelled : Each (λ i. Each (HasGroup q) (slice_index_or ms i [])) order

-- the keys of a local state: the distinct group keys of some rows, by first appearance
abbrev pub groups_of_rows : Query → List Row → KeyGroups
groups_of_rows q rows = record { keys = map (row_spelling (group_fields q)) (group_keys q rows); schema = group_fields q; state = plan_state q }

-- the keys of each local state: those of the rows of its morsels, in an order
abbrev pub answer_locals : Query → List (List Row) → List ℕ → List KeyGroups
answer_locals q ms order = map (λ s. groups_of_rows q (rows_in ms (taken q.plan.states order s))) (range_with_len 0 q.plan.states)
