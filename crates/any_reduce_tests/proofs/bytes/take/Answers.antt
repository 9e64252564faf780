use Rattle.std.proofs.Common.{refl}
use Rattle.col_core.specs.declared.data_type.DataType.TheVariants.{String}
use Rattle.any_reduce_tests.proofs.bytes.take.Goals as goal

pub reduce_one-requires-clause-served : goal.reduce_one-requires-clause-served
reduce_one-requires-clause-served c = (String, refl, tt)
