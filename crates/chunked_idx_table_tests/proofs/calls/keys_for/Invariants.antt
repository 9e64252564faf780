use Rattle.std.proofs.Common.{◌≡◌, length}
use Rattle.chunked_idx_table_tests.proofs.calls.keys_for.Given as goal

-- a key for each row so far
abbrev pub invariant-loop-row : goal.invariant-loop-row
invariant-loop-row g l = length l.keys ≡ l.row-index
