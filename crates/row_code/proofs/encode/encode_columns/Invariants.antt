use Rattle.std.proofs.Common.{◌≡◌, take, map, length}
use Rattle.std.specs.List.{All}
use Rattle.col_core.specs.Values.{Fits}
use Rattle.col_core.specs.Tables.{Column, header, field_at, column_of, values_of}
use Rattle.row_code.proofs.encode.encode_columns.Given as goal

abbrev pub invariant-loop-place : goal.invariant-loop-place
invariant-loop-place l = record {
  headers : map header (map (λ c. c.now) l.lent.items) ≡ map (field_at l.frame.schema) (take l.place-index l.places);
  fits : All (λ (column : Column). All (Fits column.dtype) column.values) (map (λ c. c.now) l.lent.items);
  values : values_of (map (λ c. c.now) l.lent.items) ≡ map (λ i. column_of i l.frame.rows) (take l.place-index l.places);
}
