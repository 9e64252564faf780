use Rattle.std.proofs.Common.{List, [], length, sym, ap, ◌∙◌, subst, arith}
use Rattle.std.specs.Vec.{with_items}
use Rattle.std.proofs.lemmas.List.{with_items_is}
use Rattle.std.proofs.lemmas.Result.{IfOk-weaker}
use Rattle.col_core.specs.Tables.{Row}
use Rattle.any_reduce.specs.Kinds.{any_holds, any_shape}
use Rattle.join_model.specs.Answers.{group_schema}
use Rattle.join_model.specs.Groups.{group_rows}
use Rattle.join_groups.specs.History.{HaveTaken, morsel_rows}
use Rattle.join_groups.proofs.Answer.{answer_locals_are, keys_few, merged_rows_are}
use Rattle.join_groups.proofs.InOrder.{rows_are, some_states, whole_rows}
use Rattle.join_groups.proofs.Taken.{none_taken}
use Rattle.join_groups.proofs.orders.group_in_order.Goals as goal

pub group_each-requires-clause-some : goal.group_each-requires-clause-some
group_each-requires-clause-some g c =
    let some = some_states c.args.query.now.plan c.requires.plan in
    let count = c.in_ok-locals.ensures.count in
    let long = ap length c.deref_mut.ensures.value in
    omega arith

pub group_each-requires-clause-new : goal.group_each-requires-clause-new
group_each-requires-clause-new g c =
    let q = c.args.query.now in
    let ms = morsel_rows c.args.morsels.now in
    subst (HaveTaken any_shape any_holds q ms []) (sym c.deref_mut.ensures.value)
    (none_taken any_shape any_holds q ms c.in_ok-locals.locals.items c.in_ok-locals.ensures.count c.in_ok-locals.ensures.fit c.in_ok-locals.ensures.new)

pub returns-clause-locals : goal.returns-clause-locals
returns-clause-locals g c =
    let ms = morsel_rows c.args.morsels.now in
    let same = with_items_is c.in_ok-locals.locals c.group_each.new.locals (c.group_each.auto.locals ∙ c.deref_mut.ensures.len) in
    let have = subst (HaveTaken any_shape any_holds c.args.query.now ms c.args.order.now) (sym same) c.in_ok-group_each.ensures.taken in
    IfOk-weaker c.merge_groups.result _ _ (λ m h. h ∙ answer_locals_are any_shape any_holds c.args.query.now ms c.args.order.now (with_items c.in_ok-locals.locals c.group_each.new.locals).items have) c.merge_groups.ensures.groupers

pub returns-clause-groups : goal.returns-clause-groups
returns-clause-groups g c =
    let q = c.args.query.now in
    let ms = morsel_rows c.args.morsels.now in
    let same = with_items_is c.in_ok-locals.locals c.group_each.new.locals (c.group_each.auto.locals ∙ c.deref_mut.ensures.len) in
    let have = subst (HaveTaken any_shape any_holds q ms c.args.order.now) (sym same) c.in_ok-group_each.ensures.taken in
    let long = ap length (rows_are c.args.morsels.now) in
    let whole = whole_rows c.args.morsels.now c.args.order.now c.requires.whole in
    IfOk-weaker c.merge_groups.result _ _ (λ m h.
    merged_rows_are any_shape any_holds q ms c.args.order.now (with_items c.in_ok-locals.locals c.group_each.new.locals).items have (some_states q.plan c.requires.plan) whole (omega arith) m.groups h
    ∙ ap (λ (rows : List Row). record { schema = group_schema q; rows = group_rows q rows }) (rows_are c.args.morsels.now)) c.merge_groups.ensures.groups

pub returns-clause-cost : goal.returns-clause-cost
returns-clause-cost g c =
    let q = c.args.query.now in
    let ms = morsel_rows c.args.morsels.now in
    let same = with_items_is c.in_ok-locals.locals c.group_each.new.locals (c.group_each.auto.locals ∙ c.deref_mut.ensures.len) in
    let have = subst (HaveTaken any_shape any_holds q ms c.args.order.now) (sym same) c.in_ok-group_each.ensures.taken in
    let long = ap length (rows_are c.args.morsels.now) in
    let whole = whole_rows c.args.morsels.now c.args.order.now c.requires.whole in
    let few = keys_few any_shape any_holds q ms c.args.order.now (with_items c.in_ok-locals.locals c.group_each.new.locals).items have (some_states q.plan c.requires.plan) whole (omega arith) in
    let so_far = c.in_ok-group_each.ensures.cost in
    let now = c.merge_groups.ensures.cost in
    omega arith
