use Rattle.std.proofs.Common.{rules, ℕ, List, IsPermutation, get_or, subst}
use Rattle.std.proofs.lemmas.List.Sorted.{IsNonDecreasingBy-from_sort_by_key}
use Rattle.list_laws.proofs.Ascending.{rises_from_non_decreasing}
use Rattle.group_locals.proofs.order.order_by_first.Goals as goal

pub returns : goal.returns
returns c =
    let first : ℕ → ℕ = λ g. get_or c.args.first_rows.now g 0 in
    record {
      whole = subst (λ (xs : List ℕ). IsPermutation xs c.sort_unstable_by_key.new.self.items) c.in_ok-order.ensures c.sort_unstable_by_key.ensures.permutation;
      rises = rises_from_non_decreasing first _ (IsNonDecreasingBy-from_sort_by_key first _ c.sort_unstable_by_key.ensures.sorted (λ a r q k. search rules));
    }
