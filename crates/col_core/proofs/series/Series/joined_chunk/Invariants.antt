use Rattle.std.proofs.Common.{◌≡◌, ◌++◌, take, drop}
use Rattle.col_core.specs.Tables.{leaves_of, chunk_leaves, IsOfKind}
use Rattle.col_core.proofs.series.Series.joined_chunk.Given as goal

abbrev pub invariant-loop-chunk : goal.invariant-loop-chunk
invariant-loop-chunk l = record {
  kind : IsOfKind l.self.dtype l.joined;
  so_far : chunk_leaves l.joined ++ take l.rest (drop l.skip (leaves_of (drop l.chunk-index l.chunk-items))) ≡ take l.len (drop l.start (leaves_of l.chunk-items));
}
