use Rattle.std.proofs.Common.{◌≡◌}
use Rattle.col_core.specs.declared.data_type.DataType.TheVariants.{Int64}
use Rattle.join_probes_tests.proofs.sides.column.Given as goal

abbrev pub invariant-loop-value : goal.invariant-loop-value
invariant-loop-value l = l.built.dtype ≡ Int64
