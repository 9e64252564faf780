use Rattle.std.proofs.Common.{◌≡◌, take}
use Rattle.lane_kernels.specs.Positions.{compared_bits}
use Rattle.lane_kernels.proofs.comparisons.compare_arrays.Given as goal

abbrev pub invariant-loop-i : goal.invariant-loop-i
invariant-loop-i g l = l.bits ≡ compared_bits g.C.Comparison.holds g.T.Number.value (take l.i l.left) (take l.i l.right)
