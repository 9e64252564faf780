use Rattle.std.proofs.Common.{sym, ◌∙◌, arith}
use Rattle.lane_kernels.proofs.Places.{sel_step_true, sel_step_false}
use Rattle.lane_kernels.proofs.if_then_else.choose.Goals as goal
use Rattle.lane_kernels.proofs.if_then_else.choose.Goals.{then-get+in_ok-push_item, else-get+in_ok-push_item-2}

pub loop-i-preserved : goal.loop-i-preserved
loop-i-preserved g c =
    let mask = c.args.mask.now in
    let first = g.A.Side.items c.args.if_true.now in
    let second = g.B.Side.items c.args.if_false.now in
    elim c.if-get.branch [
      | then-get+in_ok-push_item w ↦ rw w.all-is (sel_step_true mask first second c.loop-i.all w.push_item.new.out c.loop-i.i c.requires.long_true c.requires.long_false (omega arith) c.loop-i.invariant (sym c.get.ensures ∙ w.if-get.true) w.in_ok-push_item.ensures)
      | else-get+in_ok-push_item-2 w ↦ rw w.all-is (sel_step_false mask first second c.loop-i.all _ c.loop-i.i c.requires.long_true c.requires.long_false (omega arith) c.loop-i.invariant (sym c.get.ensures ∙ w.if-get.false) w.in_ok-push_item-2.ensures)
    ]
