-- The bytes of the rows of columns.
use Rattle.std.specs.Prelude.{ℕ, List, map}
use Rattle.col_core.specs.Tables.{Column, Table, header, values_of, rows_from}
use Rattle.col_core.specs.Refusals.{height_of}
use Rattle.row_code.specs.Spelling.{row_spelling}

-- columns as a table
abbrev pub table_of : List Column → Table
table_of columns = record { schema = map header columns; rows = rows_from (height_of columns) (values_of columns) }

-- the bytes of each row of a table
abbrev pub spellings : Table → List (List ℕ)
spellings t = map (row_spelling t.schema) t.rows
