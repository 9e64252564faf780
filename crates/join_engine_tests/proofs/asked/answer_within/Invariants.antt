use Rattle.join_engine_tests.proofs.asked.answer_within.Given as goal

-- the ledger of steps that nobody counts
abbrev pub ghosts-counted_from : goal.ghosts-counted_from
ghosts-counted_from a = record { name = a.blank.name; parts = a.blank.parts }
