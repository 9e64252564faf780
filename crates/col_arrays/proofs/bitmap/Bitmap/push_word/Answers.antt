use Rattle.std.proofs.Common.{◌≡◌, ◌+◌, ◌/◌, ◌++◌, length, take, ap, ap₂, sym, ◌∙◌, arith, rules}
use Rattle.std.specs.Int.{w64, to_le_bytes}
use Rattle.col_arrays.specs.Bits.{bits_of, low_bits}
use Rattle.col_arrays.proofs.BitLists.{length-bits}
use Rattle.col_arrays.proofs.Packed.{bits-cut, bits-word, cut_room, word_room}
use Rattle.col_arrays.proofs.bitmap.Bitmap.push_word.Goals as goal

pub invariant_of-self : goal.invariant_of-self
invariant_of-self c =
    let old = c.self.inside.bytes.items in
    let n = c.self.inside.len in
    let long : length c.args.self.now ≡ n = ap length (sym c.self.view_is) ∙ length-bits old 0 n in
    cut_room old c.extend_from_slice.new.self.items n (omega (arith, c.requires.full)) c.self.invariant (c.in_err-extend_from_slice.ensures.items ∙ c.truncate.ensures.items)

pub returns-in_err-extend_from_slice-clause-err : goal.returns-in_err-extend_from_slice-clause-err
returns-in_err-extend_from_slice-clause-err c =
    let old = c.self.inside.bytes.items in
    let n = c.self.inside.len in
    let long : length c.args.self.now ≡ n = ap length (sym c.self.view_is) ∙ length-bits old 0 n in
    let same = bits-cut old c.extend_from_slice.new.self.items n (omega (arith, c.requires.full)) c.self.invariant (c.in_err-extend_from_slice.ensures.items ∙ c.truncate.ensures.items) ∙ c.self.view_is in
    search (rules, same)

pub invariant_of-self-2 : goal.invariant_of-self-2
invariant_of-self-2 c =
    let old = c.self.inside.bytes.items in
    let n = c.self.inside.len in
    let long : length c.args.self.now ≡ n = ap length (sym c.self.view_is) ∙ length-bits old 0 n in
    let more : c.in_ok-len.len ≡ n + c.args.n = search rules in
    let grown : c.extend_from_slice.new.self.items ≡ take (n / 8) old ++ to_le_bytes w64 c.args.word = c.in_ok-extend_from_slice.ensures.items ∙ ap₂ (λ a b. a ++ b) c.truncate.ensures.items c.to_le_bytes.ensures in
    let room = word_room old c.extend_from_slice.new.self.items n c.args.n c.args.word (omega (arith, c.requires.full)) c.self.invariant c.requires.few grown in
    omega arith

pub returns-clause-ok : goal.returns-clause-ok
returns-clause-ok c =
    let old = c.self.inside.bytes.items in
    let n = c.self.inside.len in
    let long : length c.args.self.now ≡ n = ap length (sym c.self.view_is) ∙ length-bits old 0 n in
    let more : c.in_ok-len.len ≡ n + c.args.n = search rules in
    let grown : c.extend_from_slice.new.self.items ≡ take (n / 8) old ++ to_le_bytes w64 c.args.word = c.in_ok-extend_from_slice.ensures.items ∙ ap₂ (λ a b. a ++ b) c.truncate.ensures.items c.to_le_bytes.ensures in
    ap₂ bits_of grown more ∙ bits-word old n c.args.n c.args.word (omega (arith, c.requires.full)) c.self.invariant c.requires.few ∙ ap (λ bits. bits ++ low_bits c.args.word c.args.n) c.self.view_is
