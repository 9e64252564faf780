use Rattle.std.proofs.Common.{◌≡◌, length, take}
use Rattle.col_core.specs.declared.data_type.DataType.TheVariants as types
use Rattle.reduce_states.specs.States.{start, merge}
use Rattle.reduce_states.specs.Moves.{entered, ones, states_at}
use Rattle.reduce_min_max.specs.Truths.{truth_states}
use Rattle.reduce_min_max.proofs.truth_groups.BoolGroupedReductionGroupedReduction.gather_combine.Given as goal

abbrev pub invariant-loop-i : goal.invariant-loop-i
invariant-loop-i g l = record {
  long : length l.self.truths ≡ length l.fn.self.truths;
  states : entered (start g.S.Side.kind types.Boolean) (merge g.S.Side.kind types.Boolean) (truth_states l.fn.self.truths) (take l.i l.group_idxs) (take l.i (states_at g.S.Side.kind types.Boolean (truth_states l.other.truths) l.subset)) ≡ truth_states l.self.truths;
}
