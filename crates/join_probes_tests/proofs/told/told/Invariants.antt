use Rattle.join_probes_tests.proofs.told.told.Given as goal

-- the ledger of steps that nobody counts
abbrev pub ghosts-told_of : goal.ghosts-told_of
ghosts-told_of a = record { name = a.blank.name; parts = a.blank.parts }
