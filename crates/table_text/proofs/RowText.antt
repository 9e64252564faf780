-- The text of a record that is written field by field.
use Rattle.std.proofs.Common.{◌≡◌, ℕ, ◌≤◌, Bool, false, ◌==◌, List, [], ◌∷◌, ◌++◌, fold, length, sym, ◌∙◌, inl, inr, arith}
use Rattle.std.proofs.lemmas.List.{append_assoc, append-nil}
use Rattle.std.proofs.lemmas.Bool.{cases_Bool}
use Rattle.csv.specs.Writing.{row_text, fields_text, field_text, is_blank, tail_text}
use Rattle.table_text.specs.Records.{settings}
use Rattle.table_text.specs.Writers.{Standing, with_field, ended}

-- where a writer stands before a record
abbrev pub before : List ℕ → Standing
before text = record { text = text; fields = 0; shows = false }

-- after the first field, each further one stands behind a comma
further_text : (s : Standing) (rest : List (List ℕ)) → 1 ≤ s.fields → (fold with_field s rest).text ≡ s.text ++ fields_text settings rest
unfolding with_field fields_text
further_text s [] h = sym (append-nil s.text)
further_text s (field ∷ rest) h = further_text (with_field s field) rest (omega (arith, h)) ∙ grind (arith, append_assoc, h)

still_many : (s : Standing) (rest : List (List ℕ)) → 2 ≤ s.fields → 2 ≤ (fold with_field s rest).fields
unfolding with_field
still_many s [] h = h
still_many s (field ∷ rest) h = still_many (with_field s field) rest (omega (arith, h))

many : (s : Standing) (field : List ℕ) (rest : List (List ℕ)) → 1 ≤ s.fields → 2 ≤ (fold with_field s (field ∷ rest)).fields
unfolding with_field
many s field rest h = still_many (with_field s field) rest (omega (arith, h))

-- two fields or more leave no quotes to be written
no_quotes : (shows : Bool) (n : ℕ) → 2 ≤ n → tail_text settings shows n ≡ 10 ∷ []
no_quotes shows n h = grind (arith, h)

-- the text of a record, once it is ended
pub row_ended : (text first : List ℕ) (rest : List (List ℕ)) → ended (fold with_field (before text) (first ∷ rest)) ≡ text ++ row_text settings (first ∷ rest)
unfolding with_field ended is_blank fields_text
row_ended text first [] = elim (cases_Bool (length (field_text settings first) == 0)) [
  | inl blank ↦ rw (blank) (grind (arith, append_assoc, append-nil))
  | inr shows ↦ rw (shows) (grind (arith, append_assoc, append-nil))
]
row_ended text first (field ∷ rest) =
    let s = with_field (before text) first in
    rw (further_text s (field ∷ rest) (omega arith), no_quotes (fold with_field s (field ∷ rest)).shows (fold with_field s (field ∷ rest)).fields (many s field rest (omega arith))) (grind (arith, append_assoc))
