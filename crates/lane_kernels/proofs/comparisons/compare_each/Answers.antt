use Rattle.std.proofs.Common.{arith}
use Rattle.lane_kernels.proofs.Places.{map_step}
use Rattle.lane_kernels.proofs.comparisons.compare_each.Goals as goal

pub loop-i-preserved : goal.loop-i-preserved
loop-i-preserved g c =
    map_step (λ x. g.C.Comparison.holds (g.T.Number.value x) (g.T.Number.value c.args.right)) c.args.left.now c.loop-i.bits c.push.new.self c.loop-i.i c.index-left-i.result c.compare.result (omega arith) c.loop-i.invariant c.index-left-i.is c.compare.ensures c.in_ok-push.ensures.ok
