use Rattle.reduce_states.specs.Reductions.{Enters}
use Rattle.group_reduce.proofs.NullStates.{null_merges}
use Rattle.group_reduce.proofs.nulls.NullGroupedReductionGroupedReduction.combine.Goals as goal

pub returns-clause-ok : goal.returns-clause-ok
unfolding Enters
returns-clause-ok c = λ xs ys h k. null_merges c.args.self.now.dtype c.args._other.now.dtype c.args.self.now.groups c.args._other.now.groups c.args._group_idxs.now xs ys c.requires.alike.1 h k
