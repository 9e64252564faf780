use Rattle.std.proofs.Common.{◌≡◌, replicate}
use Rattle.col_core.specs.declared.leaf.Leaf.TheVariants.{Null}
use Rattle.group_reduce.proofs.nulls.null_column.Given as goal

abbrev pub invariant-loop-i : goal.invariant-loop-i
invariant-loop-i l = record {
  dtype : l.column.dtype ≡ l.fn.dtype;
  values : l.column.values ≡ replicate l._i Null;
}
