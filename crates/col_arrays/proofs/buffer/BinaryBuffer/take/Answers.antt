use Rattle.std.proofs.Common.{slice_get}
use Rattle.col_arrays.proofs.Items.{taken_more}
use Rattle.col_arrays.proofs.buffer.BinaryBuffer.take.Goals as goal

pub loop-idx-preserved : goal.loop-idx-preserved
loop-idx-preserved c =
    rw c.in_ok-push.ensures.ok
    (taken_more (slice_get c.args.self.now) c.args.idxs.now c.loop-idx.idx-index c.loop-idx.taken c.get.result.now c.loop-idx-test.true c.loop-idx.invariant c.get.ensures)
