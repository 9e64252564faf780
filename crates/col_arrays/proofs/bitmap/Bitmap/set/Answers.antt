use Rattle.std.proofs.Common.{◌≡◌, length, ap, sym, ◌∙◌, arith, rules, vec_len}
use Rattle.std.proofs.Math.ListN.{set}
use Rattle.std.proofs.lemmas.List.{with_items_is}
use Rattle.col_arrays.specs.Bits.{bit_at, bits_of}
use Rattle.col_arrays.proofs.BitLists.{bits-set, length-bits}
use Rattle.col_arrays.proofs.bitmap.Bitmap.set.Goals as goal

pub returns : goal.returns
returns c =
    let old = c.self.inside.bytes.items in
    let n = c.self.inside.len in
    let long : length c.args.self.now ≡ n = ap length (sym c.self.view_is) ∙ length-bits old 0 n in
    let written : length c.write_bit.new.bytes ≡ vec_len c.self.inside.bytes = search rules in
    ap (λ bytes. bits_of bytes n) (with_items_is c.self.inside.bytes c.write_bit.new.bytes written)
    ∙ bits-set old c.write_bit.new.bytes n c.args.i c.args.bit (omega arith) c.write_bit.ensures.written
    (λ k other. c.write_bit.ensures.others k other ∙ ap (λ bytes. bit_at bytes k) c.deref_mut.ensures.value)
    ∙ ap (λ bits. set bits c.args.i c.args.bit) c.self.view_is
