use Rattle.std.proofs.Common.{◌≡◌}
use Rattle.row_code_tests.proofs.tests.column.Given as goal

abbrev pub invariant-loop-value : goal.invariant-loop-value
invariant-loop-value l = l.built.dtype ≡ l.fn.dtype
