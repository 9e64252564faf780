use Rattle.std.proofs.Common.{rules, ◌+◌, ◌*◌, ℕ}
use Rattle.std.proofs.lemmas.List.Sorted.{IsNonDecreasingBy-from_sort_by_key}
use Rattle.list_laws.proofs.Ascending.{rises_from_non_decreasing}
use Rattle.col_core.specs.declared.row_place.RowPlace.{RowPlace}
use Rattle.join_tables.proofs.outer.sort_places.Goals as goal

pub returns-clause-rises : goal.returns-clause-rises
returns-clause-rises c =
    let number : RowPlace → ℕ = λ p. p.frame * 4294967296 + p.row in
    rises_from_non_decreasing number _ (IsNonDecreasingBy-from_sort_by_key number _ c.sort_unstable_by_key.ensures.sorted (λ a r q k. search rules))
