use Rattle.std.proofs.Common.{◌≡◌, drop}
use Rattle.col_core.specs.Schemas.{type_named}
use Rattle.col_core.proofs.schema.Schema.type_of.Given as goal

abbrev pub invariant-loop-field : goal.invariant-loop-field
invariant-loop-field l = type_named l.name (drop l.field-index l.field-items) ≡ type_named l.name l.field-items
