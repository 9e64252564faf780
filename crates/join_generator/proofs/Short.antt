-- The joined list of a generated input is short.
use Rattle.std.proofs.Common.{◌≡◌, ℕ, ◌*◌, ◌≤◌, List, [], ◌∷◌, length, append-nil}
use Rattle.col_core.specs.Tables.{Table}
use Rattle.join_query.specs.declared.query.Query.{Query}
use Rattle.join_model.specs.Joined.{rows_of, joined_rows}
use Rattle.join_generator.specs.Generated.{build_table, probe_table, generated_query}
use Rattle.join_generator.proofs.Counted.{joined_few}

pub of_frames : (n : ℕ) → length (joined_rows generated_query (rows_of (build_table n ∷ [])) (rows_of (probe_table n ∷ []))) ≤ 9 * n
of_frames n = rw (append-nil (build_table n).rows, append-nil (probe_table n).rows) (joined_few n)

pub short_as : (n : ℕ) (q : Query) (b p : List Table) → q ≡ generated_query → b ≡ build_table n ∷ [] → p ≡ probe_table n ∷ [] → length (joined_rows q (rows_of b) (rows_of p)) ≤ 9 * n
short_as n q b p e f g = rw (e, f, g) (of_frames n)
