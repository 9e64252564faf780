use Rattle.std.proofs.Common.{◌≡◌, List, length, take}
use Rattle.std.specs.List.{AllZip}
use Rattle.col_core.specs.declared.data_type.DataType.{DataType}
use Rattle.reduce_states.specs.States.{State, start, merge}
use Rattle.reduce_states.specs.Moves.{entered, ones}
use Rattle.group_reduce.specs.Reducing.{AllFit}
use Rattle.group_reduce.proofs.entering.enter_values.Given as goal

abbrev pub invariant-loop-i : goal.invariant-loop-i
invariant-loop-i g l = record {
  long : length l.kept.items ≡ length l.fn.kept.items;
  fit : AllFit g.R.Reducer.fits l.values.dtype l.kept.items;
  states : (t : DataType) (xs : List State) → AllZip g.R.Reducer.stands l.fn.kept.items xs
      → AllZip g.R.Reducer.stands l.kept.items (entered (start g.R.Reducer.kind t) (merge g.R.Reducer.kind t) xs (take l.i l.group_idxs) (take l.i (ones g.R.Reducer.kind t l.seq_id l.values.values)));
}
