use Rattle.std.proofs.Common.{◌≡◌, List, length, take}
use Rattle.std.specs.List.{AllZip}
use Rattle.reduce_states.specs.States.{State, start, merge}
use Rattle.reduce_states.specs.Moves.{entered}
use Rattle.group_reduce.specs.Reducing.{AllFit}
use Rattle.group_reduce.proofs.entering.merge_values.Given as goal

abbrev pub invariant-loop-i : goal.invariant-loop-i
invariant-loop-i g l = record {
  long : length l.kept.items ≡ length l.fn.kept.items;
  fit : AllFit g.R.Reducer.fits l.fn.dtype l.kept.items;
  states : (xs ys : List State) → AllZip g.R.Reducer.stands l.fn.kept.items xs → AllZip g.R.Reducer.stands l.others ys
      → AllZip g.R.Reducer.stands l.kept.items (entered (start g.R.Reducer.kind l.fn.dtype) (merge g.R.Reducer.kind l.fn.dtype) xs (take l.i l.group_idxs) (take l.i ys));
}
