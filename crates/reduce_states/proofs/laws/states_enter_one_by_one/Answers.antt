use Rattle.std.proofs.Common.{None}
use Rattle.reduce_states.specs.States.{start, merge}
use Rattle.reduce_states.proofs.Moved.{entered_more, length-entered}
use Rattle.reduce_states.proofs.laws.states_enter_one_by_one.Goals as goal

pub returns-clause-long : goal.returns-clause-long
returns-clause-long c = λ k t xs ys gs. length-entered (start k t) (merge k t) xs gs ys

pub returns-clause-more : goal.returns-clause-more
returns-clause-more c = λ k t xs ys front gs i p q e. rw e (entered_more (start k t) (merge k t) xs gs ys i None p q)
