-- Rows with their group keys, and what they give to a column of a local state.
use Rattle.std.specs.Prelude.{ℕ, List, [], map, length, slice_index_or}
use Rattle.std.specs.List.{range_with_len}
use Rattle.col_core.specs.declared.leaf.Leaf.{Leaf}
use Rattle.col_core.specs.Tables.{Row, row_at}
use Rattle.col_core.specs.Values.{value_at}
use Rattle.reduce_states.specs.States.{Entry as Contribution, State, start, merge, state_of}
use Rattle.reduce_states.specs.Reductions.{Shape}
use Rattle.list_laws.specs.Ascending.{least}
use Rattle.join_laws.specs.Locals.{Entry}

-- a row: the bytes of its group key, and one value for each reduction
pub record KeyedRow : Type 0 where
  pub key : List ℕ
  pub values : Row

-- the rows of keys and of columns, one column a reduction
abbrev pub keyed_rows : List (List ℕ) → List (List Leaf) → List KeyedRow
keyed_rows keys columns = map (λ i. record { key = slice_index_or keys i []; values = row_at columns i }) (range_with_len 0 (length keys))

-- the values of reduction r
abbrev pub values_for : ℕ → List KeyedRow → List Leaf
values_for r rows = map (λ row. value_at row.values r) rows

abbrev pub entry_key : Entry KeyedRow → List ℕ
entry_key e = e.row.key

abbrev pub entry_number : Entry KeyedRow → ℕ
entry_number e = e.number

-- what an entry gives to reduction r: its value, under the number of its morsel
abbrev pub contribution : ℕ → Entry KeyedRow → Contribution
contribution r e = record { number = e.morsel; value = value_at e.row.values r }

-- the states of a reduction: that of nothing, that of two, and that of what some entries give to it, as reduction r
abbrev pub start_of : Shape → State
start_of s = start s.kind s.dtype

abbrev pub merge_of : Shape → State → State → State
merge_of s = merge s.kind s.dtype

abbrev pub column_state : Shape → ℕ → List (Entry KeyedRow) → State
column_state s r es = state_of s.kind s.dtype (map (contribution r) es)

-- the first row of a group that has none yet; no row has this number
abbrev pub top : ℕ
top = 4294967295

-- the least number of some entries
abbrev pub first_number : List (Entry KeyedRow) → ℕ
first_number es = least top entry_number es
