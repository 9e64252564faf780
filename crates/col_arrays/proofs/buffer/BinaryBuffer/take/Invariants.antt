use Rattle.std.proofs.Common.{◌≡◌, map, take, Some, slice_get}
use Rattle.col_arrays.proofs.buffer.BinaryBuffer.take.Given as goal

abbrev pub invariant-loop-idx : goal.invariant-loop-idx
invariant-loop-idx l = map Some l.taken ≡ map (slice_get l.self) (take l.idx-index l.idxs)
