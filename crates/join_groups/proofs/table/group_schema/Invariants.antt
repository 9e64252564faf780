use Rattle.std.proofs.Common.{◌≡◌, ◌++◌, take, map}
use Rattle.join_model.specs.Answers.{key_field, reduction_field}
use Rattle.join_groups.proofs.table.group_schema.Given as goal

abbrev pub invariant-loop-r : goal.invariant-loop-r
invariant-loop-r l = l.fields.items ≡ map (key_field l.fn.query) l.fn.query.group_keys ++ map (reduction_field l.fn.query) (take l.r l.fn.query.reductions)
