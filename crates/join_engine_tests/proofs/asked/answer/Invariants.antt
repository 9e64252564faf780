use Rattle.join_engine_tests.proofs.asked.answer.Given as goal

-- the ledger of steps that nobody counts
abbrev pub ghosts-answer_from : goal.ghosts-answer_from
ghosts-answer_from a = record { name = a.blank.name; parts = a.blank.parts }
