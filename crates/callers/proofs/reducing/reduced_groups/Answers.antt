use Rattle.std.proofs.lemmas.Result.{IfOk-weaker}
use Rattle.callers.proofs.Reduced.{column_folds}
use Rattle.callers.proofs.reducing.reduced_groups.Goals as goal

pub returns : goal.returns
returns g c = IfOk-weaker c.finalize.result _ _ (λ s h.
    column_folds g.R.Stated.shape g.R.Stated.holds c.args.reduction.now c.resize.new.self c.update_groups.new.self c.args.groups c.args.group_idxs.now c.args.values.now.values s.values c.args.values.now.dtype
    c.requires.without_groups c.requires.dtype c.requires.places c.in_ok-resize.ensures.shape c.in_ok-resize.ensures.ok c.in_ok-update_groups.ensures.ok h) c.finalize.ensures.ok
