use Rattle.std.proofs.Common.{◌≡◌, map, take, get_or, false}
use Rattle.std.specs.Simd.Lanes.{mask_l}
use Rattle.col_arrays.proofs.bitmap.Bitmap.gather.Given as goal

abbrev pub invariant-loop-k : goal.invariant-loop-k
invariant-loop-k l = l.word ≡ mask_l (map (λ i. get_or l.self i false) (take l.k l.idxs))
