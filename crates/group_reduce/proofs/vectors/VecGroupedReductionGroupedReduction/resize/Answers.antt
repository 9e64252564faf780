use Rattle.std.proofs.Common.{sym, subst, ap, length}
use Rattle.std.specs.List.{AllZip}
use Rattle.std.proofs.lemmas.Result.{on_ok_weaker, on_err_weaker}
use Rattle.group_reduce.proofs.Kept.{same_shape}
use Rattle.group_reduce.proofs.vectors.VecGroupedReductionGroupedReduction.resize.Goals as goal

pub returns-clause-ok : goal.returns-clause-ok
returns-clause-ok g c = on_ok_weaker c.resize_values.result (λ f. λ xs h. f c.args.self.now.in_dtype xs h) c.resize_values.ensures.ok

pub returns-clause-err : goal.returns-clause-err
returns-clause-err g c = on_err_weaker c.resize_values.result
    (λ e. (same_shape g.R.Reducer.kind c.args.self.now.in_dtype g.R.Reducer.FIXED _ _ g.R.Reducer.form (ap length e), λ xs h. subst (λ vs. AllZip g.R.Reducer.stands vs xs) (sym e) h)) c.resize_values.ensures.err
