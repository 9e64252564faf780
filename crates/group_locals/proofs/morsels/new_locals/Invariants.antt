use Rattle.std.proofs.Common.{◌≡◌, length}
use Rattle.list_laws.specs.Each.{Each}
use Rattle.group_locals.proofs.News.{IsNew}
use Rattle.group_locals.proofs.morsels.new_locals.Given as goal

abbrev pub invariant-loop-state : goal.invariant-loop-state
invariant-loop-state g l = record {
  count : length l.locals.items ≡ l._state;
  new : Each (IsNew g.R.Stated.shape g.R.Stated.holds l.grouper l.reductions) l.locals.items;
}
