use Rattle.reduce_states.proofs.Merged.{IsState-state_of, IsState-one, IsState-merge}
use Rattle.reduce_states.proofs.laws.states_are_states.Goals as goal

pub returns-clause-of_entries : goal.returns-clause-of_entries
returns-clause-of_entries c = λ k t es. IsState-state_of k t es

pub returns-clause-of_one : goal.returns-clause-of_one
returns-clause-of_one c = λ k t e. IsState-one k t e

pub returns-clause-merged : goal.returns-clause-merged
returns-clause-merged c = λ k t x y p q. IsState-merge k t x y p q
