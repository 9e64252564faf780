use Rattle.chunked_idx_table_tests.proofs.many.one_hash.Given as goal

-- the ledger of steps that nobody counts
abbrev pub ghosts-one_hash_from : goal.ghosts-one_hash_from
ghosts-one_hash_from a = record { name = a.blank.name; parts = a.blank.parts }
