use Rattle.std.proofs.Common.{◌≡◌, ◌<◌, ℕ, List, length, refl, ap, sym, ◌∙◌, subst}
use Rattle.std.specs.List.{All}
use Rattle.list_laws.specs.Places.{PairsFrom}
use Rattle.list_laws.proofs.Each.{Each-weaker}
use Rattle.group_locals.specs.Orders.{FinishedColumn, IsOrder}
use Rattle.group_locals.proofs.Ordered.{order_inside}
use Rattle.group_locals.proofs.order.ordered_groups.Goals as goal

pub finish_columns-requires : goal.finish_columns-requires
finish_columns-requires g c =
    let n = length c.args.whole.grouper.keys in
    let os = c.deref.result.now in
    let inside = order_inside c.as_slice.result.now c.in_ok-order.order.items os n (ap length c.as_slice.ensures ∙ c.requires.long) c.in_ok-order.ensures c.deref.ensures.value in
    Each-weaker (λ a. (g.R.Stated.shape a).groups ≡ n) (λ a. All (λ q. q < (g.R.Stated.shape a).groups) os) c.args.whole.reductions (λ a e. subst (λ (k : ℕ). All (λ q. q < k) os) (sym e) inside) c.requires.groups

pub returns : goal.returns
returns g c = record {
  grouper_is = refl;
  order_is = subst (λ (os : List ℕ). IsOrder c.args.whole.first_rows os) (sym c.from_vec.ensures) (subst (λ (fs : List ℕ). IsOrder fs c.in_ok-order.order.items) c.as_slice.ensures c.in_ok-order.ensures);
  columns = subst (λ (os : List ℕ). PairsFrom (λ r a d. FinishedColumn g.R.Stated.shape g.R.Stated.holds os a d) 0 c.args.whole.reductions c.in_ok-columns.columns) (c.deref.ensures.value ∙ sym c.from_vec.ensures) c.in_ok-columns.ensures;
}
