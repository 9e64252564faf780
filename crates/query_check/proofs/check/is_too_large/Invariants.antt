use Rattle.std.proofs.Common.{◌≡◌, ◌+◌, ◌<◌, length, drop}
use Rattle.join_model.specs.Joined.{rows_of}
use Rattle.query_check.proofs.check.is_too_large.Given as goal

abbrev pub invariant-loop-frame : goal.invariant-loop-frame
invariant-loop-frame l = record {
  counted : l.rows + length (rows_of (drop l.frame-index l.frames)) ≡ length (rows_of l.frames);
  few : l.rows < 2147483648;
}
