use Rattle.group_locals.proofs.Calls.{combines_column, on_ok}
use Rattle.group_locals.proofs.columns.combine_column.Goals as goal

pub returns : goal.returns
returns g c = on_ok c.combine.result _ _ c.combine.ensures.ok (λ e. combines_column g.R.Stated.shape g.R.Stated.holds c.args.reduction.now c.resize.new.self c.combine.new.self c.args.groups c.args.group_idxs.now c.in_ok-resize.ensures.shape c.in_ok-resize.ensures.ok c.combine.ensures.shape c.args.other.now e)
