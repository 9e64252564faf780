use Rattle.std.proofs.Common.{◌≡◌, ℕ, Bool, ◌+◌, ◌-◌, ◌*◌, ◌++◌, Some, min, map, length, take, drop, get_or, false, ap, ap₂, ◌∙◌, arith}
use Rattle.std.specs.Simd.Lanes.{mask_l}
use Rattle.std.proofs.lemmas.List.{take_all}
use Rattle.col_arrays.specs.Bits.{low_bits}
use Rattle.col_arrays.proofs.Packed.{chunk_word, gathered_all}
use Rattle.col_arrays.proofs.bitmap.Bitmap.take.Goals as goal

pub loop-k-preserved : goal.loop-k-preserved
loop-k-preserved c =
    let f : ℕ → Bool = λ i. get_or c.args.self.now i false in
    let idxs = c.args.idxs.now in
    let n = c.min-n.result in
    let least : n ≡ min 64 (length idxs - 64 * c.loop-k.k) = grind (arith, c.min-n.ensures) in
    let at = 64 * c.loop-k.k in
    let few : at + n - at ≡ n = omega arith in
    let gathered : c.gather.result ≡ mask_l (map f (take n (drop at idxs))) = c.gather.ensures ∙ ap (λ m. mask_l (map f (take m (drop at idxs)))) few in
    c.in_ok-push_word.ensures.ok ∙ ap₂ (λ old w. old ++ low_bits w n) c.loop-k.invariant gathered
    ∙ chunk_word f idxs c.loop-k.k n least

pub returns : goal.returns
returns c =
    let f : ℕ → Bool = λ i. get_or c.args.self.now i false in
    let idxs = c.args.idxs.now in
    ap (map Some) (c.loop-k.invariant ∙ ap (map f) (take_all (64 * c.loop-k.k) idxs (omega (arith, c.loop-k-test.false, c.div_ceil-k-end.ensures))))
    ∙ gathered_all c.args.self.now idxs c.requires
