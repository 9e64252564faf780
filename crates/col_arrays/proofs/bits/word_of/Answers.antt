use Rattle.std.proofs.Common.{◌+◌, ◌*◌, ◌/◌, ◌%◌, ◌^◌, ◌<◌, eqb, get_or, ap, sym, subst, ◌∙◌, arith}
use Rattle.col_arrays.proofs.Words.{word_push, word_small, word_bits, word_end}
use Rattle.col_arrays.proofs.bits.word_of.Goals as goal

pub loop-k-preserved : goal.loop-k-preserved
loop-k-preserved c =
    let byte = get_or c.args.bytes.now c.loop-k.k 0 in
    let fit : byte < 256 = (c.type_inv.bytes c.loop-k.k).fits in
    let e = word_push byte c.loop-k.k c.loop-k.word fit (omega arith) c.loop-k.invariant.small in
    record {
      small = subst (λ w. w < 2 ^ (8 * (c.loop-k.k + 1))) (sym e) (word_small byte c.loop-k.k c.loop-k.word fit c.loop-k.invariant.small);
      bits = λ i h. word_bits c.args.bytes.now c.loop-k.k c.loop-k.word c.loop-k.invariant.small c.loop-k.invariant.bits i h ∙ ap (λ w. eqb (w / 2 ^ i % 2) 1) (sym e);
    }

pub returns : goal.returns
returns c = record { bits = word_end c.args.bytes.now c.loop-k.k c.loop-k.word c.loop-k-test.false c.loop-k.invariant.small c.loop-k.invariant.bits }
