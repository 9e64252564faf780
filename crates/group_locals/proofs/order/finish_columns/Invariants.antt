use Rattle.std.proofs.Common.{take}
use Rattle.list_laws.specs.Places.{PairsFrom, ChangedFront}
use Rattle.group_locals.specs.Orders.{FinishedColumn}
use Rattle.group_locals.proofs.order.finish_columns.Given as goal

abbrev pub invariant-loop-r : goal.invariant-loop-r
invariant-loop-r g l = record {
  rest : ChangedFront (λ r a b. Unit {0}) 0 l.r l.fn.reductions l.reductions;
  so_far : PairsFrom (λ r a c. FinishedColumn g.R.Stated.shape g.R.Stated.holds l.order a c) 0 (take l.r l.fn.reductions) l.columns.items;
}
