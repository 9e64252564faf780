use Rattle.std.proofs.Common.{◌≡◌, take, map}
use Rattle.col_core.specs.Tables.{field_at}
use Rattle.col_core.proofs.schema.Schema.select.Given as goal

abbrev pub invariant-loop-place : goal.invariant-loop-place
invariant-loop-place l = l.fields.items ≡ map (field_at l.self) (take l.place-index l.places)
