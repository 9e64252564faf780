use Rattle.std.proofs.Common.{◌≡◌, List, ◌∷◌, map, take, drop}
use Rattle.std.specs.List.{All}
use Rattle.col_core.specs.declared.schema.Field.{Field}
use Rattle.col_core.specs.Tables.{Row, column_of}
use Rattle.row_code.specs.Spelling.{row_spelling, IsRowOf}
use Rattle.row_code.proofs.decode.read_values.Given as goal

abbrev pub invariant-loop-row : goal.invariant-loop-row
invariant-loop-row l = record {
  dtype : l.values.dtype ≡ l.field.dtype;
  read : (fields : List Field) (whole : List Row) → All (IsRowOf (l.field ∷ fields)) whole → map (λ b. b.now) l.rows ≡ map (row_spelling (l.field ∷ fields)) whole
      → (l.values.values ≡ column_of 0 (take l.row-index whole)) × (map (λ b. b.now) l.rests.items ≡ map (λ row. row_spelling fields (drop 1 row)) (take l.row-index whole));
}
