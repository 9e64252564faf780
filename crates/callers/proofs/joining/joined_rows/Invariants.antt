use Rattle.callers.proofs.joining.joined_rows.Given as goal

-- the ledger of steps that nobody counts
abbrev pub ghosts-joined_from : goal.ghosts-joined_from
ghosts-joined_from a = record { name = a.blank.name; parts = a.blank.parts }
