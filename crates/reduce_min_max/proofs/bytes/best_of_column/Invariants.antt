use Rattle.std.proofs.Common.{◌≡◌, take, option_copied}
use Rattle.col_core.specs.declared.data_type.DataType.{DataType}
use Rattle.col_core.specs.Tables.{leaves_of}
use Rattle.reduce_model.specs.Folds.{fold_of}
use Rattle.kept_values.specs.Kept.{bytes_or_null}
use Rattle.reduce_min_max.proofs.bytes.best_of_column.Given as goal

abbrev pub invariant-loop-chunk : goal.invariant-loop-chunk
invariant-loop-chunk g l = (t : DataType) → bytes_or_null (option_copied l.best) ≡ fold_of g.S.Side.kind t (leaves_of (take l.chunk-index l.chunk-items))
