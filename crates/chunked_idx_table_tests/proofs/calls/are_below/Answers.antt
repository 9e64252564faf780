use Rattle.std.proofs.Common.{◌<◌, ℕ}
use Rattle.chunked_idx_table_tests.proofs.Guards.{one_more, all_of}
use Rattle.chunked_idx_table_tests.proofs.calls.are_below.Goals as goal

pub loop-i-preserved : goal.loop-i-preserved
loop-i-preserved c = one_more (λ (i : ℕ). i < c.args.len) c.args.idxs.now c.loop-i.i-index 0 c.loop-i-test.true c.loop-i.invariant c.if-i-len.false

pub returns : goal.returns
returns c = λ h. all_of (λ (i : ℕ). i < c.args.len) c.args.idxs.now c.loop-i.i-index c.loop-i-test.false c.loop-i.invariant
