use Rattle.std.proofs.Common.{◌≡◌, List, length, take}
use Rattle.reduce_states.specs.States.{State, start, merge}
use Rattle.reduce_states.specs.Moves.{entered, ones, states_at}
use Rattle.group_reduce.specs.Masked.{AreMasked}
use Rattle.group_reduce.proofs.masked.VecMaskGroupedReductionGroupedReduction.update_groups.Given as goal

abbrev pub invariant-loop-i : goal.invariant-loop-i
invariant-loop-i g l = record {
  dtype : l.self.in_dtype ≡ l.fn.self.in_dtype;
  long : length l.self.values.items ≡ length l.fn.self.values.items;
  states : (xs : List State) → AreMasked g.R.Reducer.stands l.fn.self.values.items l.fn.self.mask xs
      → AreMasked g.R.Reducer.stands l.self.values.items l.self.mask (entered (start g.R.Reducer.kind l.fn.self.in_dtype) (merge g.R.Reducer.kind l.fn.self.in_dtype) xs (take l.i l.group_idxs) (take l.i (ones g.R.Reducer.kind l.fn.self.in_dtype l.seq_id l.values.values)));
}
