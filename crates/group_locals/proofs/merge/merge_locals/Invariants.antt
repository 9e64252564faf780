use Rattle.std.proofs.Common.{◌+◌, ◌≤◌, length, take}
use Rattle.group_locals.specs.Locals.{Grouping, LocalsFit}
use Rattle.group_locals.specs.Merging.{MergesAll, keys_in}
use Rattle.group_locals.proofs.merge.merge_locals.Given as goal

abbrev pub invariant-loop-local : goal.invariant-loop-local
invariant-loop-local g l = record {
  merges : (of : Grouping) → LocalsFit g.R.Stated.shape of l.locals → MergesAll g.R.Stated.shape g.R.Stated.holds of (take l.local-index l.locals) l.whole;
  cost : l.steps ≤ l.fn.steps + length (keys_in (take l.local-index l.locals));
}
