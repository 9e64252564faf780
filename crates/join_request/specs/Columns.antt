-- How rows are read to columns: words of the reader alone, on which no definition of a request stands.
use Rattle.std.specs.Prelude.{ℕ, ◌+◌, ◌==◌, ◌&&◌, Bool, true, false, List, [], ◌∷◌, ◌++◌, map, Option, option_and_then}
use Rattle.serde_json.specs.Data.{Data, array, Items, no_items, item}
use Rattle.serde_json.specs.Find.{at}
use Rattle.serde_json.specs.View.{items_of, items_view}
use Rattle.serde_json.specs.declared.value.Value.{Value}
use Rattle.col_core.specs.declared.data_type.DataType.{DataType}
use Rattle.col_core.specs.declared.leaf.Leaf.{Leaf}
use Rattle.col_core.specs.declared.schema.Field.{Field}
use Rattle.col_core.specs.Tables.{Growing}
use Rattle.join_request.specs.Leaves.{leaf_of_value}

-- the value at a place of a row
abbrev pub leaf_in : ℕ → DataType → Data → Option Leaf
leaf_in i dtype row = option_and_then (leaf_of_value dtype) (at i row)

-- each row is a list of n items
abbrev pub item_count : Items → ℕ
item_count no_items = 0
item_count (item d ds) = item_count ds + 1

abbrev pub is_wide : ℕ → Data → Bool
is_wide n (array ds) = item_count ds == n
is_wide n d = false

abbrev pub are_wide : ℕ → Items → Bool
are_wide n no_items = true
are_wide n (item d ds) = is_wide n d && are_wide n ds

-- rows, each given by its items
abbrev pub row_views : List (List Value) → List Data
row_views rows = map (λ items. array (items_view items)) rows

abbrev pub rows_view : List (List Value) → Items
rows_view rows = items_of (row_views rows)

-- a column with one more value
abbrev pub grown : Growing → Leaf → Growing
grown column value = record { dtype = column.dtype; values = column.values ++ value ∷ [] }

-- the height of a frame of n rows
abbrev pub height_under : List Field → ℕ → ℕ
height_under [] n = 0
height_under (f ∷ fs) n = n
