use Rattle.reduce_states.specs.Reductions.{Enters, Gathered}
use Rattle.group_reduce.proofs.NullStates.{null_gathers}
use Rattle.group_reduce.proofs.nulls.NullGroupedReductionGroupedReduction.gather_combine.Goals as goal

pub returns-clause-ok : goal.returns-clause-ok
unfolding Enters Gathered
returns-clause-ok c = λ xs ys h w. null_gathers c.args.self.now.dtype c.args._other.now.dtype c.args.self.now.groups c.args._other.now.groups c.args._group_idxs.now c.args._subset.now xs ys w.0 c.requires.alike.1 h w.1 w.2
