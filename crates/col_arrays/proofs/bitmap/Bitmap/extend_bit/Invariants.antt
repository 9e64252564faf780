use Rattle.std.proofs.Common.{◌≡◌, ◌++◌, replicate}
use Rattle.col_arrays.proofs.bitmap.Bitmap.extend_bit.Given as goal

abbrev pub invariant-loop-i : goal.invariant-loop-i
invariant-loop-i l = l.self ≡ l.fn.self ++ replicate l._i l.bit
