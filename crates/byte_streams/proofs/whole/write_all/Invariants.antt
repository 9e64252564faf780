use Rattle.std.proofs.Common.{◌≡◌, ◌-◌, ◌≤◌, length, take}
use Rattle.std.specs.Io.KnownBytes.{append_known}
use Rattle.byte_streams.proofs.whole.write_all.Given as goal

-- the first bytes are written
abbrev pub invariant-loop-written : goal.invariant-loop-written
invariant-loop-written g l = record {
  so_far : g.K.Sink.held l.sink ≡ append_known (g.K.Sink.held l.fn.sink) (take l.written l.bytes);
  within : l.written ≤ length l.bytes;
  sound : g.K.Sink.faults l.sink ≡ g.K.Sink.faults l.fn.sink;
}

abbrev pub decreases-loop-written : goal.decreases-loop-written
decreases-loop-written g l = length l.bytes - l.written
