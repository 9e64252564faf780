use Rattle.reduce_states.proofs.Merged.{after-is, state_of-append}
use Rattle.reduce_states.proofs.laws.lists_merge.Goals as goal

pub returns-clause-after : goal.returns-clause-after
returns-clause-after c = λ k t s es p. after-is k t s es p

pub returns-clause-append : goal.returns-clause-append
returns-clause-append c = λ k t xs ys. state_of-append k t xs ys
