use Rattle.group_locals.proofs.Calls.{enters_column, on_ok}
use Rattle.group_locals.proofs.columns.enter_column.Goals as goal

pub returns : goal.returns
returns g c = on_ok c.update_groups.result _ _ c.update_groups.ensures.ok (λ e. enters_column g.R.Stated.shape g.R.Stated.holds c.args.reduction.now c.resize.new.self c.update_groups.new.self c.args.groups c.args.group_idxs.now c.in_ok-resize.ensures.shape c.in_ok-resize.ensures.ok c.update_groups.ensures.shape c.args.seq_id c.args.values.now.values e)
