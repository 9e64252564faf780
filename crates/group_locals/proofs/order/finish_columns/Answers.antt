use Rattle.std.proofs.Common.{◌<◌, length, sym, ◌∙◌, subst, arith}
use Rattle.std.specs.List.{All}
use Rattle.list_laws.proofs.Places.{changed_here, changed_next, length-changed, pairs_next}
use Rattle.group_locals.specs.Orders.{FinishedColumn}
use Rattle.group_locals.proofs.Calls.{lent_is}
use Rattle.group_locals.proofs.Pairs.{each_at_place}
use Rattle.group_locals.proofs.order.finish_columns.Goals as goal

pub item_mut-requires : goal.item_mut-requires
item_mut-requires g c =
    let b = length-changed (λ r a b. Unit {0}) 0 c.loop-r.r c.args.reductions.now c.loop-r.reductions c.loop-r.invariant.rest in
    omega arith

pub finish_column-requires : goal.finish_column-requires
finish_column-requires g c =
    let i = c.loop-r.r in
    let x = c.item_mut.result.now in
    let inside : c.loop-r.r < length c.args.reductions.now = omega (arith, c.len-r-end.ensures) in
    let here = lent_is c.loop-r.reductions i x x c.item_mut.ensures.value ∙ changed_here (λ r a b. Unit {0}) 0 i c.args.reductions.now c.loop-r.reductions x c.loop-r.invariant.rest in
    subst (λ a. All (λ q. q < (g.R.Stated.shape a).groups) c.args.order.now) (sym here) (each_at_place (λ a. All (λ q. q < (g.R.Stated.shape a).groups) c.args.order.now) c.args.reductions.now i x inside c.requires)

pub loop-r-preserved : goal.loop-r-preserved
loop-r-preserved g c =
    let i = c.loop-r.r in
    let x = c.item_mut.result.now in
    let inside : c.loop-r.r < length c.args.reductions.now = omega (arith, c.len-r-end.ensures) in
    let here = lent_is c.loop-r.reductions i x x c.item_mut.ensures.value ∙ changed_here (λ r a b. Unit {0}) 0 i c.args.reductions.now c.loop-r.reductions x c.loop-r.invariant.rest in
    record {
      rest = changed_next (λ r a b. Unit {0}) i c.args.reductions.now c.loop-r.reductions x c.finish_column.new.reduction inside c.loop-r.invariant.rest tt;
      so_far = pairs_next _ i c.args.reductions.now c.loop-r.columns.items c.push.new.self.items x c.in_ok-finish_column.field-0 inside c.loop-r.invariant.so_far c.in_ok-push.ensures.items (λ j. subst (λ a. FinishedColumn g.R.Stated.shape g.R.Stated.holds c.args.order.now a c.in_ok-finish_column.field-0) here c.in_ok-finish_column.ensures);
    }
