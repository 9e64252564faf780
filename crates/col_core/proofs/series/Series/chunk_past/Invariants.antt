use Rattle.std.proofs.Common.{◌≡◌, ◌<◌, length, drop}
use Rattle.col_core.specs.Tables.{leaves_of}
use Rattle.col_core.specs.Values.{value_at}
use Rattle.col_core.proofs.series.Series.chunk_past.Given as goal

abbrev pub invariant-loop-chunk : goal.invariant-loop-chunk
invariant-loop-chunk l = record {
  within : l.place < length (leaves_of (drop l.chunk-index l.chunk-items));
  same : value_at (leaves_of (drop l.chunk-index l.chunk-items)) l.place ≡ value_at (leaves_of l.chunk-items) l.i;
}
