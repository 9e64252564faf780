use Rattle.reduce_states.proofs.Folded.{out-state_of}
use Rattle.reduce_states.proofs.laws.states_give_folds.Goals as goal

pub returns : goal.returns
returns c = λ k t es ordered. out-state_of k t es ordered
