-- Rows of several frames by their places.
use Rattle.std.specs.Prelude.{◌<◌, ℕ, List, [], length, Option, Some, None, slice_index_or, slice_get}
use Rattle.std.specs.Option.{option_map}
use Rattle.col_core.specs.declared.leaf.Leaf.{Leaf}
use Rattle.col_core.specs.declared.leaf.Leaf.TheVariants as leaves
use Rattle.col_core.specs.declared.data_type.DataType.{DataType}
use Rattle.col_core.specs.declared.schema.Field.{Field}
use Rattle.col_core.specs.declared.row_place.RowPlace.{RowPlace}
use Rattle.col_core.specs.Values.{value_at}
use Rattle.col_core.specs.Tables.{Row, Table}

-- a frame without rows, which stands for none
abbrev pub no_table : Table
no_table = record { schema = []; rows = [] }

-- the row at a place
abbrev pub row_of : List Table → RowPlace → Row
row_of frames place = slice_index_or (slice_index_or frames place.frame no_table).rows place.row []

-- a place is within the frames
pub record IsPlace (frames : List Table) (place : RowPlace) : Type 0 where
  pub frame : place.frame < length frames
  pub row : place.row < length (slice_index_or frames place.frame no_table).rows

-- a place that may be missing is within the frames where it is there
abbrev pub IsPlaceIn : List Table → Option RowPlace → Type 0
IsPlaceIn frames None = Unit {0}
IsPlaceIn frames (Some place) = IsPlace frames place

-- the value of a column at a place, and null where there is no place
abbrev pub placed_value : List Table → ℕ → Option RowPlace → Leaf
placed_value frames column None = leaves.Null
placed_value frames column (Some place) = value_at (row_of frames place) column

-- the type of the field at a place of a schema
abbrev pub type_at : List Field → ℕ → Option DataType
type_at schema i = option_map (λ f. f.dtype) (slice_get schema i)

-- the value at a place of lists of values, and null where there is no place
abbrev pub picked : List (List Leaf) → Option RowPlace → Leaf
picked lists None = leaves.Null
picked lists (Some place) = value_at (slice_index_or lists place.frame []) place.row

-- a place that may be missing is within the lists where it is there
abbrev pub IsWithin : List (List Leaf) → Option RowPlace → Type 0
IsWithin lists None = Unit {0}
IsWithin lists (Some place) = place.row < length (slice_index_or lists place.frame [])
