use Rattle.std.proofs.Common.{arith}
use Rattle.lane_kernels.proofs.Places.{zip2_step}
use Rattle.lane_kernels.proofs.comparisons.compare_arrays.Goals as goal

pub loop-i-preserved : goal.loop-i-preserved
loop-i-preserved g c =
    zip2_step (λ x y. g.C.Comparison.holds (g.T.Number.value x) (g.T.Number.value y)) c.args.left.now c.args.right.now c.loop-i.bits c.push.new.self c.loop-i.i c.index-left-i.result c.index-right-i.result c.compare.result c.requires (omega arith) c.loop-i.invariant c.index-left-i.is c.index-right-i.is c.compare.ensures c.in_ok-push.ensures.ok
