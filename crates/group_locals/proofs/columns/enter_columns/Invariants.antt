use Rattle.std.proofs.Common.{[], map, get_or}
use Rattle.list_laws.specs.Places.{ChangedFront}
use Rattle.group_locals.specs.Columns.{EntersColumn}
use Rattle.group_locals.proofs.columns.enter_columns.Given as goal

abbrev pub invariant-loop-r : goal.invariant-loop-r
invariant-loop-r g l = ChangedFront (λ r a b. EntersColumn g.R.Stated.shape g.R.Stated.holds l.groups l.group_idxs l.seq_id (get_or (map (λ v. v.now.values) l.values) r []) a b) 0 l.r l.fn.reductions l.reductions
