-- The lines for the answer to a generated input, where its query and its frames are known.
use Rattle.std.proofs.Common.{◌≡◌, ℕ, List, [], ◌∷◌, refl, ap₂, ◌∙◌, Result, Ok, Err, IfOk}
use Rattle.col_core.specs.Tables.{Table}
use Rattle.join_query.specs.declared.query.Query.{Query}
use Rattle.join_model.specs.Answers.{answer_rows, answer_groups}
use Rattle.join_generator.specs.Generated.{generated_query, build_table, probe_table}
use Rattle.generated_text.specs.Lines.{answer_lines, generated_text}

pub lines_for : {E : Type 0} (r : Result (List ℕ) E) (n : ℕ) (q : Query) (b p : List Table) (rows groups : Table)
    → q ≡ generated_query → b ≡ build_table n ∷ [] → p ≡ probe_table n ∷ []
    → rows ≡ answer_rows q b p → groups ≡ answer_groups q b p
    → IfOk r (λ text. text ≡ answer_lines rows groups) → IfOk r (λ text. text ≡ generated_text n)
unfolding generated_text
lines_for (Err x) n q b p rows groups e f g rows_are groups_are lines = tt
lines_for (Ok text) n q b p rows groups e f g rows_are groups_are lines =
    let own_rows : rows ≡ answer_rows generated_query (build_table n ∷ []) (probe_table n ∷ []) = rows_are ∙ rw (e, f, g) refl in
    let own_groups : groups ≡ answer_groups generated_query (build_table n ∷ []) (probe_table n ∷ []) = groups_are ∙ rw (e, f, g) refl in
    lines ∙ ap₂ answer_lines own_rows own_groups
