use Rattle.any_reduce_tests.proofs.Sizes.{two_parts}
use Rattle.any_reduce_tests.proofs.parts.are_parted.Goals as goal

pub partition-requires-clause-sizes : goal.partition-requires-clause-sizes
partition-requires-clause-sizes g c = two_parts
