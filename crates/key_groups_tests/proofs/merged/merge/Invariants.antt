use Rattle.key_groups_tests.proofs.merged.merge.Given as goal

-- the ledger of steps that nobody counts
abbrev pub ghosts-merge_from : goal.ghosts-merge_from
ghosts-merge_from a = record { name = a.blank.name; parts = a.blank.parts }
