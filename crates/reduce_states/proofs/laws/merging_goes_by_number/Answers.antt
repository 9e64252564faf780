use Rattle.reduce_states.proofs.Merged.{state_of-comm}
use Rattle.reduce_states.proofs.laws.merging_goes_by_number.Goals as goal

pub returns : goal.returns
returns c = λ k t xs ys apart. state_of-comm k t xs ys apart
