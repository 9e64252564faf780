use Rattle.std.proofs.Common.{subst}
use Rattle.list_laws.proofs.Places.{pairs_next}
use Rattle.group_locals.specs.Columns.{IsEmptied}
use Rattle.group_locals.proofs.columns.emptied.Goals as goal

pub loop-reduction-preserved : goal.loop-reduction-preserved
loop-reduction-preserved g c = pairs_next _ c.loop-reduction.reduction-index c.args.reductions.now c.loop-reduction.empty.items c.push.new.self.items c.reduction-item.result c.new_empty.result c.loop-reduction-test.true c.loop-reduction.invariant c.in_ok-push.ensures.items (λ j. subst (λ a. IsEmptied g.R.Stated.shape g.R.Stated.holds a c.new_empty.result) c.reduction-item.is (record { shape_is = c.new_empty.ensures.shape; none = c.new_empty.ensures.states }))
