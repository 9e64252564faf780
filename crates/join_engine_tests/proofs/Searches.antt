-- A bound on searches by the number of rows of one frame a side.
use Rattle.std.proofs.Common.{◌≡◌, ◌≤◌, ◌+◌, ◌*◌, ℕ, List, [], ◌∷◌, length, ap, arith}
use Rattle.std.proofs.lemmas.List.{append-nil}
use Rattle.col_core.specs.Tables.{Table}
use Rattle.join_query.specs.declared.query.Query.{Query}
use Rattle.join_model.specs.Answers.{answer_rows}
use Rattle.join_model.specs.Filtered.{kept_rows}
use Rattle.join_model.specs.Joined.{rows_of}

pub searches_within : (q : Query) (b p rows : Table) (old new most : ℕ) → rows ≡ answer_rows q (b ∷ []) (p ∷ []) → new ≤ old + length (rows_of (b ∷ [])) + length (rows_of (p ∷ [])) + 2 * length (kept_rows q (rows_of (b ∷ [])) (rows_of (p ∷ []))) → length b.rows ≤ most → length p.rows ≤ most → length rows.rows ≤ most → new ≤ old + 4 * most
searches_within q b p rows old new most same bound few_b few_p few_rows =
    let of_b = ap length (append-nil b.rows) in
    let of_p = ap length (append-nil p.rows) in
    let of_rows = ap (λ (t : Table). length t.rows) same in
    grind arith
