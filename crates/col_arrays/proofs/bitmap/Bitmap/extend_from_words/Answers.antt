use Rattle.std.proofs.Common.{◌≡◌, ◌+◌, ◌-◌, ◌*◌, ◌<◌, ◌++◌, min, take, drop, ap, ap₂, ◌∙◌, arith, rules}
use Rattle.std.specs.Simd.Lanes.{mask_l}
use Rattle.col_arrays.specs.Bits.{low_bits}
use Rattle.col_arrays.proofs.Packed.{range_word}
use Rattle.col_arrays.proofs.bitmap.Bitmap.extend_from_words.Goals as goal

pub loop-k-preserved : goal.loop-k-preserved
loop-k-preserved c =
    let source = c.args.source.now in
    let at = 64 * c.loop-k.k in
    let n = c.min.result in
    let inside : at < c.args.len = omega (arith, c.loop-k-test.true, c.div_ceil-k-end.ensures) in
    let least : n ≡ min 64 (c.args.len - at) = grind (arith, c.min.ensures) in
    let word : c.lanes.result ≡ mask_l (take 64 (drop (c.args.start + at) source)) = c.lanes.ensures ∙ ap (λ bits. mask_l (take 64 (drop (c.args.start + at) bits))) c.mask-mask.ensures in
    let pushed : c.push_word-pushed.new.self ≡ c.loop-k.self ++ low_bits c.lanes.result n = search rules in
    pushed ∙ ap₂ (λ old w. old ++ low_bits w n) c.loop-k.invariant word ∙ range_word c.args.self.now source c.args.start c.args.len c.loop-k.k n inside c.requires.within least
