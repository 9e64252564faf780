use Rattle.std.proofs.Common.{◌≡◌, ◌+◌, ℕ, List, length, get_or, refl, subst, arith}
use Rattle.std.proofs.lemmas.List.{take_all}
use Rattle.col_core.specs.Tables.{Table}
use Rattle.any_reduce.specs.Kinds.{any_holds, any_shape}
use Rattle.join_model.specs.Answers.{joined_schema}
use Rattle.join_groups.specs.History.{HaveTaken, morsel_rows}
use Rattle.join_groups.proofs.InOrder.{first_inside, first_of, number_inside, order_fresh, order_taken, rows_more, rows_most, rows_room}
use Rattle.join_groups.proofs.Known.{at_item}
use Rattle.join_groups.proofs.orders.group_each.Goals as goal

pub bounds-first_rows-i : goal.bounds-first_rows-i
bounds-first_rows-i g c =
    let j = c.loop-number.number-index in
    let n = length c.args.morsels.now in
    first_inside c.args.morsels.now c.args.first_rows.now c.requires.firsts (get_or c.args.order.now j 0) (number_inside n c.args.order.now c.requires.whole j c.loop-number-test.true)

pub bounds-morsels-i : goal.bounds-morsels-i
bounds-morsels-i g c =
    let j = c.loop-number.number-index in
    number_inside (length c.args.morsels.now) c.args.order.now c.requires.whole j c.loop-number-test.true

pub group_morsel-requires-clause-joined : goal.group_morsel-requires-clause-joined
group_morsel-requires-clause-joined g c =
    let j = c.loop-number.number-index in
    let inside = number_inside (length c.args.morsels.now) c.args.order.now c.requires.whole j c.loop-number-test.true in
    at_item (λ (m : Table). m.schema ≡ joined_schema c.args.query.now) c.args.morsels.now c.args.morsels.now (get_or c.args.order.now j 0) c.index-morsels-i.result c.requires.joined refl inside c.index-morsels-i.is

pub group_morsel-requires-clause-rows : goal.group_morsel-requires-clause-rows
group_morsel-requires-clause-rows g c =
    let j = c.loop-number.number-index in
    let i = get_or c.args.order.now j 0 in
    let inside = number_inside (length c.args.morsels.now) c.args.order.now c.requires.whole j c.loop-number-test.true in
    let first = first_of c.args.morsels.now c.args.first_rows.now c.requires.firsts i inside in
    let room = rows_room c.args.morsels.now i c.index-morsels-i.result c.index-morsels-i.is inside in
    omega arith

pub group_morsel-requires-clause-fresh : goal.group_morsel-requires-clause-fresh
group_morsel-requires-clause-fresh g c =
    let j = c.loop-number.number-index in
    let i = get_or c.args.order.now j 0 in
    let inside = number_inside (length c.args.morsels.now) c.args.order.now c.requires.whole j c.loop-number-test.true in
    order_fresh c.args.morsels.now c.args.order.now c.requires.whole j c.loop-number-test.true c.index-morsels-i.result c.index-morsels-i.is any_shape any_holds c.args.query.now (get_or c.args.first_rows.now i 0)
    (first_of c.args.morsels.now c.args.first_rows.now c.requires.firsts i inside) c.loop-number.locals c.loop-number.invariant.taken

pub returns-in_err-group_morsel-clause-cost : goal.returns-in_err-group_morsel-clause-cost
returns-in_err-group_morsel-clause-cost g c =
    let j = c.loop-number.number-index in
    let more = rows_more c.args.morsels.now c.args.order.now c.requires.whole j c.loop-number-test.true c.index-morsels-i.result c.index-morsels-i.is in
    let most = rows_most c.args.morsels.now c.args.order.now c.requires.whole (j + 1) in
    let so_far = c.loop-number.invariant.cost in
    let now = c.group_morsel.ensures.cost in
    omega arith

pub loop-number-preserved : goal.loop-number-preserved
loop-number-preserved g c =
    let j = c.loop-number.number-index in
    let i = get_or c.args.order.now j 0 in
    let inside = number_inside (length c.args.morsels.now) c.args.order.now c.requires.whole j c.loop-number-test.true in
    let more = rows_more c.args.morsels.now c.args.order.now c.requires.whole j c.loop-number-test.true c.index-morsels-i.result c.index-morsels-i.is in
    let so_far = c.loop-number.invariant.cost in
    let now = c.in_ok-group_morsel.ensures.cost in
    record {
      taken = order_taken c.args.morsels.now c.args.order.now c.requires.whole j c.loop-number-test.true c.index-morsels-i.result c.index-morsels-i.is any_shape any_holds c.args.query.now (get_or c.args.first_rows.now i 0)
          (first_of c.args.morsels.now c.args.first_rows.now c.requires.firsts i inside) c.loop-number.locals c.loop-number.invariant.taken
          c.group_morsel.new.locals c.in_ok-group_morsel.ensures.changed c.in_ok-group_morsel.ensures.fit c.in_ok-group_morsel.ensures.spelled;
      cost = omega arith;
    }

pub returns-clause-taken : goal.returns-clause-taken
returns-clause-taken g c = subst (λ (seen : List ℕ). HaveTaken any_shape any_holds c.args.query.now (morsel_rows c.args.morsels.now) seen c.loop-number.locals) (take_all c.loop-number.number-index c.args.order.now c.loop-number-test.false) c.loop-number.invariant.taken

pub returns-clause-cost : goal.returns-clause-cost
returns-clause-cost g c =
    let most = rows_most c.args.morsels.now c.args.order.now c.requires.whole c.loop-number.number-index in
    let so_far = c.loop-number.invariant.cost in
    omega arith
