use Rattle.std.proofs.Common.{◌≡◌, ◌*◌, map, take, get_or, false}
use Rattle.col_arrays.proofs.bitmap.Bitmap.take.Given as goal

abbrev pub invariant-loop-k : goal.invariant-loop-k
invariant-loop-k l = l.taken ≡ map (λ i. get_or l.self i false) (take (64 * l.k) l.idxs)
