-- Columns as lists of values, and tables as lists of rows.
use Rattle.std.specs.Prelude.{◌≡◌, ◌<◌, ◌^◌, ℕ, pos, Bool, List, [], ◌∷◌, map, length, slice_index_or}
use Rattle.std.specs.List.{flat_map, range_with_len, All}
use Rattle.col_core.specs.declared.leaf.Leaf.{Leaf}
use Rattle.col_core.specs.declared.data_type.DataType.{DataType}
use Rattle.col_core.specs.declared.data_type.DataType.TheVariants.{Binary}
use Rattle.col_core.specs.declared.schema.Field.{Field}
use Rattle.col_core.specs.declared.chunk.Chunk.{Chunk}
use Rattle.col_core.specs.declared.chunk.Chunk.TheVariants as chunks
use Rattle.col_core.specs.declared.data_type.PhysicalType.{PhysicalType}
use Rattle.col_core.specs.declared.data_type.PhysicalType.TheVariants as kept
use Rattle.col_core.specs.declared.leaf.Leaf.TheVariants as leaves
use Rattle.col_core.specs.Physical.{physical_of, physical_eq, IsKept}
use Rattle.col_core.specs.Values.{value_at, Fits, item_leaf, number_leaf}

-- a column: its name, its type and its values
pub record Column : Type 0 where
  pub name : List ℕ
  pub dtype : DataType
  pub values : List Leaf

-- a column that grows: its type and its values so far
pub record Growing : Type 0 where
  pub dtype : DataType
  pub values : List Leaf

-- the values of a chunk
abbrev pub chunk_leaves : Chunk → List Leaf
chunk_leaves (chunks.Boolean items) = map (item_leaf (λ b. leaves.Bool b)) items
chunk_leaves (chunks.I8 items) = map (number_leaf (λ z. z)) items
chunk_leaves (chunks.I16 items) = map (number_leaf (λ z. z)) items
chunk_leaves (chunks.I32 items) = map (number_leaf (λ z. z)) items
chunk_leaves (chunks.I64 items) = map (number_leaf (λ z. z)) items
chunk_leaves (chunks.I128 items) = map (number_leaf (λ z. z)) items
chunk_leaves (chunks.U8 items) = map (number_leaf (λ n. pos n)) items
chunk_leaves (chunks.U16 items) = map (number_leaf (λ n. pos n)) items
chunk_leaves (chunks.U32 items) = map (number_leaf (λ n. pos n)) items
chunk_leaves (chunks.U64 items) = map (number_leaf (λ n. pos n)) items
chunk_leaves (chunks.Bytes items) = map (item_leaf (λ b. leaves.Bytes b)) items

-- how the items of a chunk are kept
abbrev pub chunk_physical : Chunk → PhysicalType
chunk_physical (chunks.Boolean items) = kept.Boolean
chunk_physical (chunks.I8 items) = kept.I8
chunk_physical (chunks.I16 items) = kept.I16
chunk_physical (chunks.I32 items) = kept.I32
chunk_physical (chunks.I64 items) = kept.I64
chunk_physical (chunks.I128 items) = kept.I128
chunk_physical (chunks.U8 items) = kept.U8
chunk_physical (chunks.U16 items) = kept.U16
chunk_physical (chunks.U32 items) = kept.U32
chunk_physical (chunks.U64 items) = kept.U64
chunk_physical (chunks.Bytes items) = kept.Bytes

-- the values of chunks, one chunk after the other
abbrev pub leaves_of : List Chunk → List Leaf
leaves_of all = flat_map chunk_leaves all

-- a chunk is kept as the values of a type are
abbrev pub is_of_kind : DataType → Chunk → Bool
is_of_kind t c = physical_eq (physical_of t) (chunk_physical c)

abbrev pub IsOfKind : DataType → Chunk → Type 0
IsOfKind t c = physical_of t ≡ chunk_physical c

-- each value of a chunk is one of those that are kept so
abbrev pub IsWellKept : Chunk → Type 0
IsWellKept c = All (IsKept (chunk_physical c)) (chunk_leaves c)

-- what holds of a column's type and chunks
pub record AreChunksOf (dtype : DataType) (all : List Chunk) : Type 0 where
  pub kinds : All (IsOfKind dtype) all
  pub fits : All (Fits dtype) (leaves_of all)
  pub small : length (leaves_of all) < 2 ^ 64

-- what holds of a column that is being built
pub record IsBuilt (dtype : DataType) (chunk : Chunk) : Type 0 where
  pub kind : IsOfKind dtype chunk
  pub fits : All (Fits dtype) (chunk_leaves chunk)

-- the header of a column
abbrev pub header : Column → Field
header c = record { name = c.name; dtype = c.dtype }

-- a row is one value for each column
abbrev pub Row : Type 0
Row = List Leaf

-- the row at a place of columns
abbrev pub row_at : List (List Leaf) → ℕ → Row
row_at columns i = map (λ values. value_at values i) columns

-- the first n rows of columns
abbrev pub rows_from : ℕ → List (List Leaf) → List Row
rows_from n columns = map (row_at columns) (range_with_len 0 n)

-- the values or rows at places
abbrev pub values_at : List Leaf → List ℕ → List Leaf
values_at values places = map (value_at values) places

abbrev pub rows_at : List Row → List ℕ → List Row
rows_at rows places = map (λ i. slice_index_or rows i []) places

-- the values of a column, from the rows
abbrev pub column_of : ℕ → List Row → List Leaf
column_of c rows = map (λ row. value_at row c) rows

-- a table: its schema and its rows
pub record Table : Type 0 where
  pub schema : List Field
  pub rows : List Row

-- a column's values at places
abbrev pub taken : List ℕ → Column → Column
taken places c = record { name = c.name; dtype = c.dtype; values = values_at c.values places }

-- the values of columns
abbrev pub values_of : List Column → List (List Leaf)
values_of columns = map (λ c. c.values) columns

-- each row has a value for each field
abbrev pub AreWide : Table → Type 0
AreWide t = All (λ row. length row ≡ length t.schema) t.rows

-- a field that stands for none
abbrev pub no_field : Field
no_field = record { name = []; dtype = Binary }

abbrev pub field_at : List Field → ℕ → Field
field_at schema i = slice_index_or schema i no_field

-- some of a table's columns, by their places
abbrev pub selected : List ℕ → Table → Table
selected places t = record { schema = map (field_at t.schema) places; rows = map (λ row. values_at row places) t.rows }

-- columns of one height, under a schema
pub record AreColumnsOf (schema : List Field) (columns : List Column) (height : ℕ) : Type 0 where
  pub headers : map header columns ≡ schema
  pub lengths : All (λ c. length c.values ≡ height) columns
  pub fits : All (λ c. All (Fits c.dtype) c.values) columns

-- a row has one value for each field, and each value fits its field
abbrev pub FitsSchema : List Field → Row → Type 0
FitsSchema [] [] = Unit {0}
FitsSchema (f ∷ fs) (v ∷ vs) = Fits f.dtype v × FitsSchema fs vs
FitsSchema _ _ = ⊥
