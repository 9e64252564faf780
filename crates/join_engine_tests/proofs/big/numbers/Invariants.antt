use Rattle.std.proofs.Common.{◌≡◌}
use Rattle.col_core.specs.declared.data_type.DataType.TheVariants.{Int64}
use Rattle.join_engine_tests.proofs.big.numbers.Given as goal

abbrev pub invariant-loop-row : goal.invariant-loop-row
invariant-loop-row l = l.built.dtype ≡ Int64
