use Rattle.group_reduce.specs.Reducing.{Merges}
use Rattle.reduce_min_max.proofs.numbers.NumReducerReducer.combine.Goals as goal

pub returns-clause-ok : goal.returns-clause-ok
unfolding Merges
returns-clause-ok g c = c.enter.ensures
