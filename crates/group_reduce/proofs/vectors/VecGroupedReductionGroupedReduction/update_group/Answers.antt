use Rattle.std.proofs.lemmas.Result.{on_ok_weaker}
use Rattle.group_reduce.proofs.vectors.VecGroupedReductionGroupedReduction.update_group.Goals as goal

pub returns-clause-ok : goal.returns-clause-ok
returns-clause-ok g c = on_ok_weaker c.enter_group.result (λ f. λ xs h. f c.args.self.now.in_dtype xs h) c.enter_group.ensures.ok
