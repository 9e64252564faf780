use Rattle.std.proofs.Common.{◌≡◌, ◌*◌, ◌%◌, ◌^◌, cond, get_or, bit_or, false, ap, ◌∙◌, rules}
use Rattle.col_arrays.proofs.Packed.{gathered_more}
use Rattle.col_arrays.proofs.bitmap.Bitmap.gather.Goals as goal

pub loop-k-preserved : goal.loop-k-preserved
loop-k-preserved c =
    let k = c.loop-k.k in
    let one : c.from.result ≡ cond c.get.result 1 0 = search rules in
    ap (λ b. bit_or c.loop-k.word (b * 2 ^ k % 2 ^ 64)) one
    ∙ gathered_more (λ i. get_or c.args.self.now i false) c.args.idxs.now k c.loop-k.word c.get.result c.loop-k-test.true c.requires.few c.loop-k.invariant c.get.ensures
