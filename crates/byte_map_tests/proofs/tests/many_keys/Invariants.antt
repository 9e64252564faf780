use Rattle.byte_map_tests.proofs.tests.many_keys.Given as goal

-- the ledger of steps that nobody counts
abbrev pub ghosts-many_keys_from : goal.ghosts-many_keys_from
ghosts-many_keys_from a = record { name = a.blank.name; parts = a.blank.parts }
