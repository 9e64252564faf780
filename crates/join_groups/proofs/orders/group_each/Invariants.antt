use Rattle.std.proofs.Common.{◌≤◌, ◌+◌, length, take}
use Rattle.any_reduce.specs.Kinds.{any_holds, any_shape}
use Rattle.join_groups.specs.History.{HaveTaken, rows_in, morsel_rows}
use Rattle.join_groups.proofs.orders.group_each.Given as goal

abbrev pub invariant-loop-number : goal.invariant-loop-number
invariant-loop-number g l = record {
  taken : HaveTaken any_shape any_holds l.fn.query (morsel_rows l.fn.morsels) (take l.number-index l.fn.order) l.locals;
  cost : l.steps ≤ l.fn.steps + length (rows_in (morsel_rows l.fn.morsels) (take l.number-index l.fn.order));
}
