use Rattle.std.proofs.Common.{◌≡◌, take}
use Rattle.lane_kernels.specs.Positions.{filtered}
use Rattle.lane_kernels.proofs.filter.filter_boolean_kernel.Given as goal

abbrev pub invariant-loop-i : goal.invariant-loop-i
invariant-loop-i l = l.kept ≡ filtered (take l.i l.bits) (take l.i l.mask)
