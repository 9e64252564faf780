use Rattle.std.proofs.Common.{◌≡◌, ◌*◌, ◌+◌, length, take, ap, sym, ◌∙◌, arith}
use Rattle.std.specs.List.{count_by}
use Rattle.std.specs.Int.RustNames.{count_ones}
use Rattle.std.proofs.lemmas.List.{take_all, length-take}
use Rattle.std.proofs.lemmas.List.Sums.{count_by-le-length}
use Rattle.col_arrays.proofs.Words.{count_word}
use Rattle.col_arrays.proofs.BitLists.{length-bits}
use Rattle.col_arrays.proofs.mask.BitMask.set_bits.Goals as goal

pub overflow_add-set : goal.overflow_add-set
overflow_add-set c =
    let bits = c.args.self.now in
    let long : length bits ≡ c.self.inside.len = ap length (sym c.self.view_is) ∙ length-bits c.self.inside.bytes.now c.self.inside.offset c.self.inside.len in
    let so_far : c.loop-word.set ≡ count_by (λ bit. bit) (take (64 * c.loop-word.word) bits) = c.loop-word.invariant in
    let more = count_word bits c.loop-word.word in
    let word = ap count_ones c.lanes.ensures in
    record { fits = omega (arith, word, more, c.self.invariant.1, count_by-le-length (λ bit. bit) (take (64 * (c.loop-word.word + 1)) bits), length-take (64 * (c.loop-word.word + 1)) bits) }

pub loop-word-preserved : goal.loop-word-preserved
loop-word-preserved c =
    ap (λ n. n + count_ones c.lanes.result) c.loop-word.invariant
    ∙ ap (λ w. count_by (λ bit. bit) (take (64 * c.loop-word.word) c.args.self.now) + count_ones w) c.lanes.ensures
    ∙ sym (count_word c.args.self.now c.loop-word.word)

pub returns : goal.returns
returns c =
    let bits = c.args.self.now in
    let long : length bits ≡ c.self.inside.len = ap length (sym c.self.view_is) ∙ length-bits c.self.inside.bytes.now c.self.inside.offset c.self.inside.len in
    c.loop-word.invariant ∙ ap (count_by (λ bit. bit)) (take_all (64 * c.loop-word.word) bits (omega (arith, c.div_ceil-word-end.ensures)))
