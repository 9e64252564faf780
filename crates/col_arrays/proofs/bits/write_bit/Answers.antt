use Rattle.std.proofs.Common.{sym, ◌∙◌}
use Rattle.col_arrays.proofs.Writes.{bit_set, bit_set_others, bit_cleared, bit_cleared_others}
use Rattle.col_arrays.proofs.bits.write_bit.Goals as goal

pub returns-then-bit-clause-written : goal.returns-then-bit-clause-written
returns-then-bit-clause-written c = bit_set c.args.bytes.now c.args.i c.requires ∙ sym c.if-bit.true

pub returns-then-bit-clause-others : goal.returns-then-bit-clause-others
returns-then-bit-clause-others c = bit_set_others c.args.bytes.now c.args.i c.requires

pub returns-else-bit-clause-written : goal.returns-else-bit-clause-written
returns-else-bit-clause-written c = bit_cleared c.args.bytes.now c.args.i c.requires ∙ sym c.if-bit.false

pub returns-else-bit-clause-others : goal.returns-else-bit-clause-others
returns-else-bit-clause-others c = bit_cleared_others c.args.bytes.now c.args.i c.requires
