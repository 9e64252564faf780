use Rattle.std.proofs.Common.{◌≡◌, take}
use Rattle.col_core.specs.declared.data_type.DataType.{DataType}
use Rattle.reduce_model.specs.Folds.{fold_of}
use Rattle.kept_values.specs.Kept.{truth_or_null}
use Rattle.reduce_min_max.proofs.truth_groups.best_truth.Given as goal

abbrev pub invariant-loop-i : goal.invariant-loop-i
invariant-loop-i g l = (t : DataType) → truth_or_null l.best ≡ fold_of g.S.Side.kind t (take l.i l.values.values)
