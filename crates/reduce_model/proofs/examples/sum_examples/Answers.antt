use Rattle.std.proofs.Common.{refl}
use Rattle.std.specs.Int.{int_wrap}
use Rattle.reduce_model.proofs.examples.sum_examples.Goals as goal

pub returns-clause-wraps_in_32_bits : goal.returns-clause-wraps_in_32_bits
unfolding int_wrap
returns-clause-wraps_in_32_bits c = refl

pub returns-clause-wraps_in_64_bits : goal.returns-clause-wraps_in_64_bits
unfolding int_wrap
returns-clause-wraps_in_64_bits c = refl
