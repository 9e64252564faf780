use Rattle.std.proofs.Common.{◌≡◌, take, map}
use Rattle.join_model.specs.Answers.{key_field}
use Rattle.join_groups.proofs.keys.group_fields.Given as goal

abbrev pub invariant-loop-column : goal.invariant-loop-column
invariant-loop-column l = l.fields.items ≡ map (key_field l.fn.query) (take l.column-index l.column-items)
