use Rattle.group_parts_tests.proofs.Sizes.{two_parts}
use Rattle.group_parts_tests.proofs.parts.pairs_are_dealt.Goals as goal

pub partition_vec_mask-requires-clause-sizes : goal.partition_vec_mask-requires-clause-sizes
partition_vec_mask-requires-clause-sizes c = two_parts
