use Rattle.std.proofs.Common.{◌≡◌, ◌≤◌, length, vec_capacity}
use Rattle.col_core.specs.declared.data_type.DataType.{DataType}
use Rattle.reduce_model.specs.declared.kind.ReductionKind.TheVariants.{Sum}
use Rattle.reduce_states.specs.States.{start}
use Rattle.reduce_states.specs.Moves.{cut_or_filled}
use Rattle.reduce_sum.specs.Sums.{total_states}
use Rattle.reduce_sum.proofs.sums.fill_totals.Given as goal

abbrev pub invariant-loop-i : goal.invariant-loop-i
invariant-loop-i g l = record {
  held : l.held ≡ length l.fn.totals.items;
  long : length l.totals.items ≡ l._i;
  room : l.wanted ≤ vec_capacity l.totals;
  states : (t : DataType) → total_states g.T.Number.value t l.totals.items ≡ cut_or_filled (start Sum t) (total_states g.T.Number.value t l.fn.totals.items) l._i;
}
