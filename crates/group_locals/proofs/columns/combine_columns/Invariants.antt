use Rattle.list_laws.specs.Places.{ChangedFront, At}
use Rattle.group_locals.specs.Columns.{CombinesColumn}
use Rattle.group_locals.proofs.columns.combine_columns.Given as goal

abbrev pub invariant-loop-r : goal.invariant-loop-r
invariant-loop-r g l = ChangedFront (λ r a b. At (λ o. CombinesColumn g.R.Stated.shape g.R.Stated.holds l.groups l.group_idxs a o b) r l.others) 0 l.r l.fn.reductions l.reductions
