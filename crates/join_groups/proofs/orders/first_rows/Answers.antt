use Rattle.std.proofs.Common.{rules, ◌+◌, ◌<◌, ◌^◌, ◌∙◌, arith}
use Rattle.join_groups.proofs.InOrder.{first_next, firsts_more, rows_room}
use Rattle.join_groups.proofs.orders.first_rows.Goals as goal

pub overflow_cast-row : goal.overflow_cast-row
overflow_cast-row c =
    let room = rows_room c.args.morsels.now c.loop-morsel.morsel-index c.morsel-item.result c.morsel-item.is c.loop-morsel-test.true in
    let high = c.height.ensures.height in
    let small : c.height.result < 2 ^ 32 = omega arith in
    search rules

pub overflow_add-row : goal.overflow_add-row
overflow_add-row c =
    let room = rows_room c.args.morsels.now c.loop-morsel.morsel-index c.morsel-item.result c.morsel-item.is c.loop-morsel-test.true in
    let next = c.loop-morsel.invariant.next in
    let high = c.height.ensures.height in
    let small : c.loop-morsel.row + c.height.result < 2 ^ 32 = omega arith in
    search rules

pub loop-morsel-preserved : goal.loop-morsel-preserved
loop-morsel-preserved c =
    let more = first_next c.args.morsels.now c.loop-morsel.morsel-index c.morsel-item.result c.morsel-item.is c.loop-morsel-test.true in
    let next = c.loop-morsel.invariant.next in
    let high = c.height.ensures.height in
    record {
      next = omega arith;
      so_far = c.in_ok-push.ensures.items ∙ firsts_more c.args.morsels.now c.loop-morsel.morsel-index c.morsel-item.result c.morsel-item.is c.loop-morsel-test.true c.loop-morsel.first_rows.items c.loop-morsel.row next c.loop-morsel.invariant.so_far;
    }
