use Rattle.std.proofs.Common.{◌≡◌, [], take, MatchOption}
use Rattle.lane_kernels.specs.Positions.{IsBest}
use Rattle.lane_kernels.proofs.min_max.best.Given as goal

abbrev pub invariant-loop-i : goal.invariant-loop-i
invariant-loop-i g l = MatchOption l.best (take l.i l.values ≡ []) (IsBest g.C.Comparison.holds g.T.Number.value (take l.i l.values))
