use Rattle.std.proofs.Common.{◌≡◌, take, map}
use Rattle.std.specs.List.{range_with_len}
use Rattle.col_core.specs.Tables.{taken}
use Rattle.col_core.proofs.frame.Frame.slice.Given as goal

abbrev pub invariant-loop-column : goal.invariant-loop-column
invariant-loop-column l = l.columns.items ≡ map (taken (range_with_len l.start l.len)) (take l.column-index l.column-items)
