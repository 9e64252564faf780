use Rattle.std.proofs.Common.{[], false, sym, ◌∙◌, arith}
use Rattle.lane_kernels.proofs.Filtered.{kept_step, dropped_step}
use Rattle.lane_kernels.proofs.filter.filter_boolean_kernel.Goals as goal
use Rattle.lane_kernels.proofs.filter.filter_boolean_kernel.Goals.{then-get+in_ok-push, else-get}

pub loop-i-preserved : goal.loop-i-preserved
loop-i-preserved c =
    let bits = c.args.bits.now in
    let mask = c.args.mask.now in
    let i = c.loop-i.i in
    elim c.if-get.branch [
      | then-get+in_ok-push w ↦ rw w.kept-is (kept_step bits mask [] c.loop-i.kept w.push.new.self i false w.get-then-get.result c.requires (omega arith) c.loop-i.invariant w.get-then-get.ensures (sym c.get.ensures ∙ w.if-get.true) w.in_ok-push.ensures.ok)
      | else-get w ↦ rw w.kept-is (dropped_step bits mask [] c.loop-i.kept i c.requires (omega arith) c.loop-i.invariant (sym c.get.ensures ∙ w.if-get.false))
    ]
