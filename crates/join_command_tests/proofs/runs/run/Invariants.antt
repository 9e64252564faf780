use Rattle.join_command_tests.proofs.runs.run.Given as goal

-- the ledger of steps that nobody counts
abbrev pub ghosts-run_uncounted : goal.ghosts-run_uncounted
ghosts-run_uncounted g a = record { name = a.blank.name; parts = a.blank.parts }
