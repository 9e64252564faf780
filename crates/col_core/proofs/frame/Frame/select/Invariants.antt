use Rattle.std.proofs.Common.{◌≡◌, take, map}
use Rattle.std.specs.List.{All}
use Rattle.col_core.specs.Values.{Fits}
use Rattle.col_core.specs.Tables.{Column, header, field_at, column_of, values_of}
use Rattle.col_core.proofs.frame.Frame.select.Given as goal

abbrev pub invariant-loop-place : goal.invariant-loop-place
invariant-loop-place l = record {
  headers : map header l.columns.items ≡ map (field_at l.self.schema) (take l.place-index l.places);
  fits : All (λ (column : Column). All (Fits column.dtype) column.values) l.columns.items;
  values : values_of l.columns.items ≡ map (λ i. column_of i l.self.rows) (take l.place-index l.places);
}
