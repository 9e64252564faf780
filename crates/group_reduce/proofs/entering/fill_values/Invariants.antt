use Rattle.std.proofs.Common.{◌≡◌, ◌≤◌, List, length, vec_capacity}
use Rattle.std.specs.List.{AllZip}
use Rattle.col_core.specs.declared.data_type.DataType.{DataType}
use Rattle.reduce_states.specs.States.{State, start}
use Rattle.reduce_states.specs.Moves.{cut_or_filled}
use Rattle.group_reduce.specs.Reducing.{AllFit}
use Rattle.group_reduce.proofs.entering.fill_values.Given as goal

abbrev pub invariant-loop-i : goal.invariant-loop-i
invariant-loop-i g l = record {
  held : l.held ≡ length l.fn.kept.items;
  long : length l.kept.items ≡ l._i;
  room : l.wanted ≤ vec_capacity l.kept;
  fit : (t : DataType) → AllFit g.R.Reducer.fits t l.fn.kept.items → AllFit g.R.Reducer.fits t l.kept.items;
  states : (t : DataType) (xs : List State) → AllZip g.R.Reducer.stands l.fn.kept.items xs
      → AllZip g.R.Reducer.stands l.kept.items (cut_or_filled (start g.R.Reducer.kind t) xs l._i);
}
