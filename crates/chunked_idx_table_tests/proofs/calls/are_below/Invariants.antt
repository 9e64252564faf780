use Rattle.std.proofs.Common.{◌<◌, take}
use Rattle.std.specs.List.{All}
use Rattle.chunked_idx_table_tests.proofs.calls.are_below.Given as goal

-- the indexes so far are below
abbrev pub invariant-loop-i : goal.invariant-loop-i
invariant-loop-i l = All (λ i. i < l.len) (take l.i-index l.idxs)
