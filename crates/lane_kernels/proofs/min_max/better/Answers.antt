use Rattle.std.proofs.Common.{sym, ◌∙◌}
use Rattle.lane_kernels.proofs.Best.{best_replaced}
use Rattle.lane_kernels.proofs.min_max.better.Goals as goal

pub returns-then-compare : goal.returns-then-compare
returns-then-compare g c = λ so_far before.
    best_replaced g.C.Comparison.holds g.T.Number.value so_far c.in-Some.best c.args.value g.met.C.Order.beats_law g.met.C.Order.tie_law (rw c.in-Some.is at before) (sym c.compare.ensures ∙ c.if-compare.true)
