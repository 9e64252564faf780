use Rattle.std.proofs.Common.{◌≡◌, take}
use Rattle.lane_kernels.specs.Positions.{compared_with}
use Rattle.lane_kernels.proofs.comparisons.compare_each.Given as goal

abbrev pub invariant-loop-i : goal.invariant-loop-i
invariant-loop-i g l = l.bits ≡ compared_with g.C.Comparison.holds g.T.Number.value (take l.i l.left) l.right
