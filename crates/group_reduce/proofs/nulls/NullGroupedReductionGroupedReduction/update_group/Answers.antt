use Rattle.group_reduce.proofs.NullStates.{null_enters_at}
use Rattle.group_reduce.proofs.nulls.NullGroupedReductionGroupedReduction.update_group.Goals as goal

pub returns-clause-ok : goal.returns-clause-ok
returns-clause-ok c = λ xs h. null_enters_at c.args.self.now.dtype c.args.self.now.groups c.args._seq_id c.args._group_idx c.args._values.now.values xs c.args.self.now.bytes h
