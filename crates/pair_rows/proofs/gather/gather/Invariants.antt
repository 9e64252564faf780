use Rattle.std.proofs.Common.{◌≡◌, ◌++◌, map}
use Rattle.std.specs.List.{range_with_len}
use Rattle.pair_rows.specs.Gathered.{gathered_column}
use Rattle.pair_rows.proofs.gather.gather.Given as goal

abbrev pub invariant-loop-c : goal.invariant-loop-c
invariant-loop-c l = l.columns.items ≡ l.fn.columns.items ++ map (gathered_column l.prefix l.schema l.frames l.places) (range_with_len 0 l.c)
