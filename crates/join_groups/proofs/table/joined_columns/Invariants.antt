use Rattle.std.proofs.Common.{◌≡◌, ◌++◌}
use Rattle.join_groups.proofs.table.joined_columns.Given as goal

abbrev pub invariant-loop-column : goal.invariant-loop-column
invariant-loop-column l = l.columns.items ≡ l.fn.columns.items ++ l.yielded
