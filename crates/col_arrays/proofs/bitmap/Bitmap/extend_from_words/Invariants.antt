use Rattle.std.proofs.Common.{◌≡◌, ◌*◌, ◌++◌, take, drop}
use Rattle.col_arrays.proofs.bitmap.Bitmap.extend_from_words.Given as goal

abbrev pub invariant-loop-k : goal.invariant-loop-k
invariant-loop-k l = l.self ≡ l.fn.self ++ take (64 * l.k) (take l.len (drop l.start l.source))
