use Rattle.std.proofs.Common.{◌≡◌, take}
use Rattle.col_core.specs.declared.data_type.DataType.{DataType}
use Rattle.col_core.specs.Tables.{leaves_of}
use Rattle.reduce_model.specs.Folds.{fold_of}
use Rattle.kept_values.specs.Kept.{number_or_null}
use Rattle.reduce_min_max.proofs.numeric.NumericReduction.reduce_ca.Given as goal

abbrev pub invariant-loop-chunk : goal.invariant-loop-chunk
invariant-loop-chunk g l = (t : DataType) → number_or_null g.Self.Elem.Number.value l.best ≡ fold_of g.Self.NumericReduction.kind t (leaves_of (take l.chunk-index l.chunk-items))
