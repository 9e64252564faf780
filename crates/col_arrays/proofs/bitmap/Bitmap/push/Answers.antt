use Rattle.std.proofs.Common.{◌≡◌, ◌≢◌, ◌+◌, [], ◌∷◌, ◌++◌, ap, ◌∙◌, arith, rules, length, vec_len}
use Rattle.std.proofs.lemmas.List.{with_items_is}
use Rattle.col_arrays.specs.Bits.{bit_at, bits_of}
use Rattle.col_arrays.proofs.BitLists.{bits-push}
use Rattle.col_arrays.proofs.bitmap.Bitmap.push.Goals as goal

pub returns-clause-ok : goal.returns-clause-ok
returns-clause-ok c =
    let n = c.self.inside.len in
    let new = c.write_bit.new.bytes in
    let more : c.in_ok-len.len ≡ n + 1 = search rules in
    let long : length new ≡ vec_len c.make_place.new.bytes = search rules in
    ap (λ bytes. bits_of bytes c.in_ok-len.len) (with_items_is c.make_place.new.bytes new long)
    ∙ ap (bits_of new) more
    ∙ bits-push c.self.inside.bytes.items new n c.args.bit
    (λ k h. let other : k ≢ n = omega arith in
    c.write_bit.ensures.others k other ∙ ap (λ bytes. bit_at bytes k) c.deref_mut.ensures.value ∙ c.make_place.ensures.before k h)
    c.write_bit.ensures.written
    ∙ ap (λ bits. bits ++ c.args.bit ∷ []) c.self.view_is
