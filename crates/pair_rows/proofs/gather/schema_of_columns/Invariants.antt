use Rattle.std.proofs.Common.{◌≡◌, map, take}
use Rattle.std.specs.List.{All}
use Rattle.col_core.specs.Tables.{Column, header}
use Rattle.col_core.specs.Values.{Fits}
use Rattle.pair_rows.proofs.gather.schema_of_columns.Given as goal

abbrev pub invariant-loop-column : goal.invariant-loop-column
invariant-loop-column l = record {
  headers : l.fields.items ≡ map header (take l.column-index l.columns);
  fits : All (λ (column : Column). All (Fits column.dtype) column.values) (take l.column-index l.columns);
}
