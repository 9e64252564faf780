-- Columns that grow side by side.
use Rattle.std.specs.Prelude.{◌≡◌, ◌<◌, ◌≤◌, ℕ, List, [], ◌++◌, map, length, get_or}
use Rattle.std.specs.List.{All}
use Rattle.col_core.specs.declared.schema.Field.{Field}
use Rattle.col_core.specs.Tables.{Growing, Row, Table, rows_from, column_of, no_field}

-- columns have the types of a schema, and one height
pub record AreGrowing (schema : List Field) (columns : List Growing) (height : ℕ) : Type 0 where
  pub types : map (λ c. c.dtype) columns ≡ map (λ f. f.dtype) schema
  pub lengths : All (λ c. length c.values ≡ height) columns

-- the rows of columns
abbrev pub growing_rows : List Growing → ℕ → List Row
growing_rows columns height = rows_from height (map (λ c. c.values) columns)

-- a column of a field without values
abbrev pub empty_column : Field → Growing
empty_column f = record { dtype = f.dtype; values = [] }

abbrev pub column_at : List Growing → ℕ → Growing
column_at columns i = get_or columns i (empty_column no_field)

-- a column with the values of a frame's column
abbrev pub extended : Table → ℕ → Growing → Growing
extended rows i column = record { dtype = column.dtype; values = column.values ++ column_of i rows.rows }

-- the columns below one have been extended, the others not
pub record ExtendedUpTo (rows : Table) (i : ℕ) (olds news : List Growing) : Type 0 where
  pub long : length news ≡ length olds
  pub done : (c : ℕ) → c < i → column_at news c ≡ extended rows c (column_at olds c)
  pub rest : (c : ℕ) → i ≤ c → column_at news c ≡ column_at olds c
