use Rattle.std.proofs.Common.{take}
use Rattle.std.specs.List.{All}
use Rattle.col_core.specs.Tables.{AreWide}
use Rattle.pair_rows.proofs.joined.know_wide.Given as goal

abbrev pub invariant-loop-frame : goal.invariant-loop-frame
invariant-loop-frame l = All AreWide (take l.frame-index l.frames)
