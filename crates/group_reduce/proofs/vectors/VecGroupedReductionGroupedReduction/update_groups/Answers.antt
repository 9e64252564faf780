use Rattle.std.proofs.lemmas.Result.{on_ok_weaker, on_err_weaker}
use Rattle.reduce_states.specs.Reductions.{Enters, EntersFront, OnesOf}
use Rattle.group_reduce.proofs.vectors.VecGroupedReductionGroupedReduction.update_groups.Goals as goal

pub returns-clause-ok : goal.returns-clause-ok
unfolding Enters OnesOf
returns-clause-ok g c = on_ok_weaker c.enter_values.result (λ f. λ xs ys h k. f c.args.self.now.in_dtype xs ys h k) c.enter_values.ensures.ok

pub returns-clause-err : goal.returns-clause-err
unfolding EntersFront OnesOf
returns-clause-err g c = on_err_weaker c.enter_values.result (λ f. f c.args.self.now.in_dtype) c.enter_values.ensures.err
