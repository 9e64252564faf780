use Rattle.std.proofs.Common.{◌≡◌, ◌+◌, drop}
use Rattle.std.specs.List.{count_by}
use Rattle.col_core.specs.Tables.{leaves_of}
use Rattle.col_core.specs.Values.{is_null}
use Rattle.col_core.proofs.series.Series.null_count.Given as goal

abbrev pub invariant-loop-chunk : goal.invariant-loop-chunk
invariant-loop-chunk l = l.n + count_by is_null (leaves_of (drop l.chunk-index l.chunk-items)) ≡ count_by is_null (leaves_of l.chunk-items)
