use Rattle.join_tool.proofs.main.Given as goal

-- the ledger of steps that nobody counts
abbrev pub ghosts-run_uncounted : goal.ghosts-run_uncounted
ghosts-run_uncounted a = record { name = a.blank.name; parts = a.blank.parts }
