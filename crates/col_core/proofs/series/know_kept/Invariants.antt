use Rattle.std.proofs.Common.{take}
use Rattle.std.specs.List.{All}
use Rattle.col_core.specs.Tables.{IsWellKept}
use Rattle.col_core.proofs.series.know_kept.Given as goal

abbrev pub invariant-loop-chunk : goal.invariant-loop-chunk
invariant-loop-chunk l = All IsWellKept (take l.chunk-index l.chunks)
