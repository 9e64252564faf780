-- The first morsel of new local states.
use Rattle.std.proofs.Common.{◌≡◌, List, [], length, flat_map, sym, subst}
use Rattle.col_core.specs.Tables.{Row}
use Rattle.any_reduce.specs.Kinds.{any_holds, any_shape}
use Rattle.any_reduce.specs.declared.any.AnyReduction.{AnyReduction}
use Rattle.list_laws.specs.Each.{Each}
use Rattle.group_locals.specs.declared.local.LocalState.{LocalState}
use Rattle.group_locals.specs.History.{LocalHolds}
use Rattle.group_locals.specs.Locals.{AreFresh, LocalsFit, kept}
use Rattle.join_query.specs.declared.query.Query.{Query}
use Rattle.join_groups.specs.Keyed.{grouping_of_query}
use Rattle.join_groups.proofs.Taken.{next_fresh, none_taken}

-- its rows have numbers that no row has had
pub first_fresh : (q : Query) (rows : List Row) (new now : List (LocalState AnyReduction)) → now ≡ new → length new ≡ q.plan.states → LocalsFit any_shape (grouping_of_query q) new
    → Each (LocalHolds any_holds (grouping_of_query q) []) new → AreFresh 0 (length rows) (flat_map kept now)
first_fresh q rows new now same count fit holds =
    subst (λ (ls : List (LocalState AnyReduction)). AreFresh 0 (length rows) (flat_map kept ls)) (sym same)
    (next_fresh any_shape any_holds q [] rows new (none_taken any_shape any_holds q [] new count fit holds))
