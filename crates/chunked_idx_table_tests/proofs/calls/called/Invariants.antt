use Rattle.chunked_idx_table_tests.proofs.calls.called.Given as goal

-- the ledger of steps that nobody counts
abbrev pub ghosts-called_from : goal.ghosts-called_from
ghosts-called_from a = record { name = a.blank.name; parts = a.blank.parts }
