use Rattle.std.proofs.Common.{◌≡◌, map, take}
use Rattle.std.specs.List.{All}
use Rattle.col_core.specs.Tables.{chunk_leaves, IsOfKind}
use Rattle.col_core.proofs.gather.only_chunks.Given as goal

abbrev pub invariant-loop-source : goal.invariant-loop-source
invariant-loop-source l = record {
  kinds : All (λ chunk. IsOfKind l.fn.dtype chunk.now) l.chunks.items;
  values : map (λ chunk. chunk_leaves chunk.now) l.chunks.items ≡ map (λ source. source.now.values) (take l.source-index l.sources);
}
