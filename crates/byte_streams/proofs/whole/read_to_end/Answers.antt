use Rattle.std.proofs.Common.{◌++◌, take, arith}
use Rattle.byte_streams.proofs.Known.{taken_more}
use Rattle.byte_streams.proofs.Pieces.{length-more}
use Rattle.byte_streams.proofs.whole.read_to_end.Goals as goal

pub returns-then-count-most-clause-stopped : goal.returns-then-count-most-clause-stopped
returns-then-count-most-clause-stopped g c =
    let left = g.S.Source.left in
    let kept = c.loop-count.bytes.items in
    let n = c.in-Got.count in record {
      taken = kept ++ take n c.read.new.buf;
      front = taken_more (left c.args.source.now) (left c.loop-count.source) (left c.read.new.self) kept (take n c.read.new.buf) c.loop-count.invariant.so_far c.in-Got.ensures.took.2;
      count = omega (arith, length-more kept c.read.new.buf n c.in-Got.ensures.took.1, c.in-Got.ensures.took.1);
    }

pub returns-then-is_err-clause-stopped : goal.returns-then-is_err-clause-stopped
returns-then-is_err-clause-stopped g c =
    let left = g.S.Source.left in
    let kept = c.loop-count.bytes.items in
    let n = c.in-Got.count in record {
      taken = kept ++ take n c.read.new.buf;
      front = taken_more (left c.args.source.now) (left c.loop-count.source) (left c.read.new.self) kept (take n c.read.new.buf) c.loop-count.invariant.so_far c.in-Got.ensures.took.2;
      count = omega (arith, length-more kept c.read.new.buf n c.in-Got.ensures.took.1);
    }
