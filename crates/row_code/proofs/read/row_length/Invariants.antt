use Rattle.std.proofs.Common.{ℕ, List, drop}
use Rattle.row_code.proofs.Fronts.{RowLeaves}
use Rattle.row_code.proofs.read.row_length.Given as goal

-- what the fields that are left leave of the rest, all leave of the bytes
abbrev pub invariant-loop-field : goal.invariant-loop-field
invariant-loop-field l = record {
  on : (s : List ℕ) → RowLeaves l.schema l.bytes s → RowLeaves (drop l.field-index l.schema) l.rest s;
  back : (s : List ℕ) → RowLeaves (drop l.field-index l.schema) l.rest s → RowLeaves l.schema l.bytes s;
}
