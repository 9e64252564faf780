use Rattle.std.proofs.Common.{◌≡◌, replicate}
use Rattle.chunked_idx_table.specs.Tables.{empty_table}
use Rattle.join_tables.proofs.built.empty_tables.Given as goal

abbrev pub invariant-loop-i : goal.invariant-loop-i
invariant-loop-i l = l.tables.items ≡ replicate l._i (empty_table l.state)
