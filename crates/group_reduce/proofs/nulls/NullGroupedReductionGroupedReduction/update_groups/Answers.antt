use Rattle.reduce_states.specs.Reductions.{Enters, OnesOf}
use Rattle.group_reduce.proofs.NullStates.{null_enters}
use Rattle.group_reduce.proofs.nulls.NullGroupedReductionGroupedReduction.update_groups.Goals as goal

pub returns-clause-ok : goal.returns-clause-ok
unfolding Enters OnesOf
returns-clause-ok c = λ xs ys h k. null_enters c.args.self.now.dtype c.args.self.now.groups c.args._seq_id c.args._group_idxs.now c.args._values.now.values xs ys c.args.self.now.bytes h k
