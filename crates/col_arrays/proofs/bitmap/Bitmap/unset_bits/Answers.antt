use Rattle.std.proofs.Common.{◌≡◌, length, ap, sym, ◌∙◌, arith}
use Rattle.std.specs.List.{count_by}
use Rattle.col_arrays.proofs.BitLists.{length-bits}
use Rattle.col_arrays.proofs.Words.{count_not}
use Rattle.col_arrays.proofs.bitmap.Bitmap.unset_bits.Goals as goal

pub overflow_sub-result : goal.overflow_sub-result
overflow_sub-result c =
    let long : length c.args.self.now ≡ c.self.inside.len = ap length (sym c.self.view_is) ∙ length-bits c.self.inside.bytes.items 0 c.self.inside.len in
    let set : c.set_bits.result ≡ count_by (λ bit. bit) c.args.self.now = c.set_bits.ensures ∙ ap (count_by (λ bit. bit)) c.mask.ensures in
    omega (arith, count_not c.args.self.now)

pub returns : goal.returns
returns c =
    let long : length c.args.self.now ≡ c.self.inside.len = ap length (sym c.self.view_is) ∙ length-bits c.self.inside.bytes.items 0 c.self.inside.len in
    let set : c.set_bits.result ≡ count_by (λ bit. bit) c.args.self.now = c.set_bits.ensures ∙ ap (count_by (λ bit. bit)) c.mask.ensures in
    omega (arith, count_not c.args.self.now)
