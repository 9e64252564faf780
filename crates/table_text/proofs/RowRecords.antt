-- The record of a row that is kept as columns.
use Rattle.std.proofs.Common.{◌≡◌, ℕ, ◌<◌, List, [], ◌∷◌, map, length, slice_index_or, refl, sym, ap, ◌∙◌}
use Rattle.std.specs.List.{zip}
use Rattle.col_core.specs.Values.{value_at}
use Rattle.col_core.specs.Tables.{Column, Table, header, row_at, rows_from, values_of, AreColumnsOf}
use Rattle.col_core.proofs.Rows.{row_among}
use Rattle.table_text.specs.Fields.{value_text}
use Rattle.table_text.specs.Records.{row_record}

-- the field of a column in a row
abbrev pub field_in : ℕ → Column → List ℕ
field_in i c = value_text c.dtype (value_at c.values i)

by_columns : (i : ℕ) (columns : List Column) → map (λ p. value_text p.0.dtype p.1) (zip (map header columns) (row_at (values_of columns) i)) ≡ map (field_in i) columns
by_columns i [] = refl
by_columns i (c ∷ columns) = ap (λ fields. field_in i c ∷ fields) (by_columns i columns)

-- the record of a table's row, from the table's columns
pub row_by_columns : (mark : List ℕ) (table : Table) (columns : List Column) (i : ℕ) → AreColumnsOf table.schema columns (length table.rows) → table.rows ≡ rows_from (length table.rows) (values_of columns) → i < length table.rows
    → mark ∷ map (field_in i) columns ≡ row_record mark table.schema (slice_index_or table.rows i [])
row_by_columns mark table columns i under rows h =
    let row : slice_index_or table.rows i [] ≡ row_at (values_of columns) i = ap (λ rs. slice_index_or rs i []) rows ∙ row_among (length table.rows) (values_of columns) i h in
    rw (row, ← under.headers) (ap (λ fields. mark ∷ fields) (sym (by_columns i columns)))
