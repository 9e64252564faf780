use Rattle.std.proofs.Common.{◌≡◌, take}
use Rattle.lane_kernels.specs.Positions.{chosen}
use Rattle.lane_kernels.proofs.if_then_else.choose.Given as goal

abbrev pub invariant-loop-i : goal.invariant-loop-i
invariant-loop-i g l = l.all ≡ chosen (take l.i l.mask) (take l.i (g.A.Side.items l.if_true)) (take l.i (g.B.Side.items l.if_false))
