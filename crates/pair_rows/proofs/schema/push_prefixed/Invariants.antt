use Rattle.std.proofs.Common.{◌≡◌, ◌++◌, take}
use Rattle.join_model.specs.Answers.{prefixed}
use Rattle.pair_rows.proofs.schema.push_prefixed.Given as goal

abbrev pub invariant-loop-field : goal.invariant-loop-field
invariant-loop-field l = l.fields.items ≡ l.fn.fields.items ++ prefixed l.prefix (take l.field-index l.schema)
