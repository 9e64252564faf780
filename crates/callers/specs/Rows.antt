-- The rows of a table as bytes.
use Rattle.std.specs.Prelude.{ℕ, List, map}
use Rattle.col_core.specs.Tables.{Table}
use Rattle.row_code.specs.Spelling.{row_spelling}

-- the bytes of each row
abbrev pub row_bytes : Table → List (List ℕ)
row_bytes t = map (row_spelling t.schema) t.rows
