use Rattle.std.proofs.Common.{◌≡◌, map, take}
use Rattle.col_core.specs.declared.data_type.DataType.TheVariants as types
use Rattle.kept_values.specs.Kept.{truth_or_null}
use Rattle.reduce_min_max.proofs.truth_groups.truth_column.Given as goal

abbrev pub invariant-loop-i : goal.invariant-loop-i
invariant-loop-i l = record {
  dtype : l.column.dtype ≡ types.Boolean;
  values : l.column.values ≡ map truth_or_null (take l.i l.truths);
}
