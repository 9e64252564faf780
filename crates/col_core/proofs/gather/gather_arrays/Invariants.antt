use Rattle.std.proofs.Common.{◌≡◌, map, take}
use Rattle.col_core.specs.Tables.{chunk_leaves}
use Rattle.col_core.proofs.gather.gather_arrays.Given as goal

abbrev pub invariant-loop-chunk : goal.invariant-loop-chunk
invariant-loop-chunk g l = map (λ array. g.A.ValueArray.values array.now) l.arrays.items ≡ map (λ chunk. chunk_leaves chunk.now) (take l.chunk-index l.chunks)
