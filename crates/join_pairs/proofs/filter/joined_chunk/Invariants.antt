use Rattle.std.proofs.Common.{◌≡◌, take}
use Rattle.col_core.specs.Tables.{chunk_leaves, leaves_of, IsOfKind}
use Rattle.join_pairs.proofs.filter.joined_chunk.Given as goal

abbrev pub invariant-loop-chunk : goal.invariant-loop-chunk
invariant-loop-chunk l = record {
  kind : IsOfKind l.column.dtype l.joined;
  so_far : chunk_leaves l.joined ≡ leaves_of (take l.chunk-index l.chunk-items);
}
