use Rattle.std.proofs.Common.{◌≡◌, map, take, Some, slice_get, vec_len, vec_capacity, length}
use Rattle.col_arrays.proofs.primitive.take_values.Given as goal

abbrev pub invariant-loop-idx : goal.invariant-loop-idx
invariant-loop-idx g l = record { values : map Some l.taken.items ≡ map (slice_get l.values) (take l.idx-index l.idxs); len : vec_len l.taken ≡ l.idx-index; room : vec_capacity l.taken ≡ length l.idxs }
