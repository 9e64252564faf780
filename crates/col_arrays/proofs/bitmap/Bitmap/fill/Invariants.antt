use Rattle.std.proofs.Common.{◌≡◌, ◌*◌, ◌++◌, min, replicate}
use Rattle.col_arrays.proofs.bitmap.Bitmap.fill.Given as goal

abbrev pub invariant-loop-k : goal.invariant-loop-k
invariant-loop-k l = l.self ≡ l.fn.self ++ replicate (min (64 * l.k) l.n) l.bit
