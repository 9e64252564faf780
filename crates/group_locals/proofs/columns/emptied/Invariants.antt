use Rattle.std.proofs.Common.{take}
use Rattle.group_locals.specs.Columns.{AreEmptied}
use Rattle.group_locals.proofs.columns.emptied.Given as goal

abbrev pub invariant-loop-reduction : goal.invariant-loop-reduction
invariant-loop-reduction g l = AreEmptied g.R.Stated.shape g.R.Stated.holds (take l.reduction-index l.reductions) l.empty.items
