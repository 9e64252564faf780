use Rattle.byte_map_tests.proofs.tests.few_keys.Given as goal

-- the ledger of steps that nobody counts
abbrev pub ghosts-few_keys_from : goal.ghosts-few_keys_from
ghosts-few_keys_from a = record { name = a.blank.name; parts = a.blank.parts }
