use Rattle.std.proofs.Common.{◌≡◌, List, map, take}
use Rattle.std.specs.List.{All}
use Rattle.col_arrays.specs.Items.{stored}
use Rattle.col_core.specs.Values.{Fits}
use Rattle.col_core.specs.Tables.{Column, Row, header, values_of}
use Rattle.row_code.specs.Spelling.{row_spelling, IsRowOf}
use Rattle.row_code.proofs.Decoded.{IsRead}
use Rattle.row_code.proofs.decode.read_columns.Given as goal

abbrev pub invariant-loop-field : goal.invariant-loop-field
invariant-loop-field l = record {
  headers : map header l.columns.items ≡ take l.field-index l.fields;
  fits : All (λ (c : Column). All (Fits c.dtype) c.values) l.columns.items;
  read : (rows : List Row) → All (IsRowOf l.fields) rows → stored l.taken ≡ map (row_spelling l.fields) rows
      → IsRead l.fields rows l.field-index (values_of l.columns.items) (map (λ b. b.now) l.rests.items);
}
