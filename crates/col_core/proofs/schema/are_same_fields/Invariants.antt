use Rattle.std.proofs.Common.{◌≡◌, drop}
use Rattle.col_core.specs.Schemas.{schema_eq}
use Rattle.col_core.proofs.schema.are_same_fields.Given as goal

abbrev pub invariant-loop-i : goal.invariant-loop-i
invariant-loop-i l = schema_eq (drop l.i l.a) (drop l.i l.b) ≡ schema_eq l.a l.b
