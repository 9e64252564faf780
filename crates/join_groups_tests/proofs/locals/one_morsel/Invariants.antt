use Rattle.join_groups_tests.proofs.locals.one_morsel.Given as goal

-- the ledger of steps that nobody counts
abbrev pub ghosts-one_morsel_from : goal.ghosts-one_morsel_from
ghosts-one_morsel_from a = record { name = a.blank.name; parts = a.blank.parts }
