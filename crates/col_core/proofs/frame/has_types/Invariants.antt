use Rattle.std.proofs.Common.{◌≡◌, drop}
use Rattle.col_core.specs.Refusals.{has_types}
use Rattle.col_core.proofs.frame.has_types.Given as goal

abbrev pub invariant-loop-i : goal.invariant-loop-i
invariant-loop-i l = has_types (drop l.i l.fields) (drop l.i l.columns) ≡ has_types l.fields l.columns
