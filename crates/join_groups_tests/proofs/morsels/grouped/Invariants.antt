use Rattle.join_groups_tests.proofs.morsels.grouped.Given as goal

-- the ledger of steps that nobody counts
abbrev pub ghosts-grouped_from : goal.ghosts-grouped_from
ghosts-grouped_from a = record { name = a.blank.name; parts = a.blank.parts }
