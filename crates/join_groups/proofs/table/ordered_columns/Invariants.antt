use Rattle.std.proofs.Common.{◌≡◌, take, map}
use Rattle.col_core.specs.Tables.{taken}
use Rattle.join_groups.proofs.table.ordered_columns.Given as goal

abbrev pub invariant-loop-column : goal.invariant-loop-column
invariant-loop-column l = l.columns.items ≡ map (taken l.fn.order) (take l.column-index l.column-items)
