use Rattle.group_parts_tests.proofs.Sizes.{two_parts}
use Rattle.group_parts_tests.proofs.parts.lists_are_dealt.Goals as goal

pub partition_vec-requires-clause-sizes : goal.partition_vec-requires-clause-sizes
partition_vec-requires-clause-sizes c = two_parts
