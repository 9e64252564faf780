use Rattle.std.proofs.Common.{◌≡◌}
use Rattle.any_reduce_tests.proofs.columns.column.Given as goal

abbrev pub invariant-loop-value : goal.invariant-loop-value
invariant-loop-value l = l.built.dtype ≡ l.fn.dtype
