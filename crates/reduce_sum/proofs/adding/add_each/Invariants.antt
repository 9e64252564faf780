use Rattle.std.proofs.Common.{◌≡◌, ◌<◌, ℕ, None, List, length, take, get_or}
use Rattle.col_core.specs.declared.data_type.DataType.{DataType}
use Rattle.reduce_model.specs.declared.kind.ReductionKind.TheVariants.{Sum}
use Rattle.reduce_states.specs.States.{State, total, start, merge}
use Rattle.reduce_states.specs.Moves.{entered}
use Rattle.reduce_sum.specs.Sums.{WrapsAs, total_states}
use Rattle.reduce_sum.proofs.adding.add_each.Given as goal

abbrev pub invariant-loop-i : goal.invariant-loop-i
invariant-loop-i g l = record {
  long : length l.totals ≡ length l.fn.totals;
  states : (t : DataType) (ys : List State) → WrapsAs g.T.Number.wrap t → length ys ≡ length l.group_idxs
      → ((i : ℕ) (x : g.row.T.Denot) → i < length l.group_idxs → goal.F-post g l.fn.number i x → total t (g.T.Number.value x) ≡ get_or ys i None)
      → total_states g.T.Number.value t l.totals ≡ entered (start Sum t) (merge Sum t) (total_states g.T.Number.value t l.fn.totals) (take l.i l.group_idxs) (take l.i ys);
}
