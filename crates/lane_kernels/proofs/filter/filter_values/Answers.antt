use Rattle.std.proofs.Common.{get_or, false, sym, ◌∙◌, arith}
use Rattle.std.proofs.lemmas.List.Sums.{count_by_more_yes, count_by_more_no}
use Rattle.lane_kernels.proofs.Filtered.{kept_step, dropped_step}
use Rattle.lane_kernels.proofs.filter.filter_values.Goals as goal
use Rattle.lane_kernels.proofs.filter.filter_values.Goals.{then-get, else-get}

pub loop-i-preserved : goal.loop-i-preserved
loop-i-preserved g c =
    let xs = c.args.values.now in
    let mask = c.args.mask.now in
    let i = c.loop-i.i in
    elim c.if-get.branch [
      | then-get w ↦
          let set = sym c.get.ensures ∙ w.if-get.true in
          rw w.out-is (record {
            items = kept_step xs mask c.args.out.now.items c.loop-i.out.items w.push_reserved.new.self.items i c.index-values-i.result c.index-values-i.result c.requires (omega arith) c.loop-i.invariant.items c.index-values-i.is set w.push_reserved.ensures.items;
            len = omega (arith, c.loop-i.invariant.len, w.push_reserved.ensures.len, count_by_more_yes (λ bit. bit) mask i false (omega arith) set);
            room = omega (arith, c.loop-i.invariant.room, w.push_reserved.ensures.capacity);
          })
      | else-get w ↦
          let unset = sym c.get.ensures ∙ w.if-get.false in
          rw w.out-is (record {
            items = dropped_step xs mask c.args.out.now.items c.loop-i.out.items i c.requires (omega arith) c.loop-i.invariant.items unset;
            len = omega (arith, c.loop-i.invariant.len, count_by_more_no (λ bit. bit) mask i false (omega arith) unset);
            room = c.loop-i.invariant.room;
          })
    ]
