use Rattle.std.proofs.Common.{◌≡◌, ◌-◌, ◌*◌, ◌^◌, ◌<◌, ◌++◌, min, cond, ap, ap₂, sym, ◌∙◌, arith, rules}
use Rattle.col_arrays.specs.Bits.{low_bits}
use Rattle.col_arrays.proofs.Packed.{same_word}
use Rattle.col_arrays.proofs.bitmap.Bitmap.fill.Goals as goal
use Rattle.col_arrays.proofs.bitmap.Bitmap.fill.Goals.{then-bit, else-bit}

pub loop-k-preserved : goal.loop-k-preserved
loop-k-preserved c =
    let at = 64 * c.loop-k.k in
    let n = c.min.result in
    let inside : at < c.args.n = omega (arith, c.loop-k-test.true, c.div_ceil-k-end.ensures) in
    let least : n ≡ min 64 (c.args.n - at) = grind (arith, c.min.ensures) in
    let word : c.if-bit.word ≡ cond c.args.bit (2 ^ 64 - 1) 0 = elim c.if-bit.branch [
      | then-bit w ↦ w.word-is ∙ ap (λ b. cond b (2 ^ 64 - 1) 0) (sym w.if-bit.true)
      | else-bit w ↦ w.word-is ∙ ap (λ b. cond b (2 ^ 64 - 1) 0) (sym w.if-bit.false)
    ] in
    let pushed : c.push_word-pushed.new.self ≡ c.loop-k.self ++ low_bits c.if-bit.word n = search rules in
    pushed ∙ ap₂ (λ old w. old ++ low_bits w n) c.loop-k.invariant word ∙ same_word c.args.self.now c.args.bit c.args.n c.loop-k.k n inside least
