use Rattle.std.proofs.Common.{◌≡◌, [], take, MatchOption}
use Rattle.lane_kernels.specs.Positions.{IsBest, filtered}
use Rattle.lane_kernels.proofs.min_max.best_where.Given as goal

abbrev pub invariant-loop-i : goal.invariant-loop-i
invariant-loop-i g l = MatchOption l.best (filtered (take l.i l.values) (take l.i l.validity) ≡ []) (IsBest g.C.Comparison.holds g.T.Number.value (filtered (take l.i l.values) (take l.i l.validity)))
