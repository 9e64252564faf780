use Rattle.group_reduce.proofs.NullStates.{null_resizes}
use Rattle.group_reduce.proofs.nulls.NullGroupedReductionGroupedReduction.resize.Goals as goal

pub returns-clause-ok : goal.returns-clause-ok
returns-clause-ok c = λ xs h. null_resizes c.args.self.now.dtype c.args.self.now.groups c.args.num_groups xs h
