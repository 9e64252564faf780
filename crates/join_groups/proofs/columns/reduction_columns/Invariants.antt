use Rattle.std.proofs.Common.{◌≡◌, take, map}
use Rattle.join_model.specs.ColumnRefs.{ref_type, ref_value}
use Rattle.join_groups.proofs.columns.reduction_columns.Given as goal

abbrev pub invariant-loop-reduction : goal.invariant-loop-reduction
invariant-loop-reduction l = record {
  types : map (λ c. c.now.dtype) l.columns.items ≡ map (λ r. ref_type l.fn.query r.column) (take l.reduction-index l.reduction-items);
  values : map (λ c. c.now.values) l.columns.items ≡ map (λ r. map (ref_value l.fn.query r.column) l.fn.rows.rows) (take l.reduction-index l.reduction-items);
}
