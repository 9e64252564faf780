-- The keys of the rows of a table, where nulls are keys too.
use Rattle.std.proofs.Common.{◌≡◌, ℕ, true, List, [], ◌∷◌, map, is_some, refl, ap}
use Rattle.std.specs.List.{All}
use Rattle.std.proofs.lemmas.List.Elements.{All-nil, All-cons, All-head, All-tail}
use Rattle.col_core.specs.declared.schema.Field.{Field}
use Rattle.col_core.specs.Tables.{Row}
use Rattle.row_code.specs.Spelling.{IsRowOf, IsSpelling, row_spelling}
use Rattle.hash_keys.specs.Keys.{Key}
use Rattle.hash_keys.specs.Rows.{key_of}
use Rattle.key_groups.specs.Groups.{bytes_of}

module _ (schema : List Field) where
  pub bytes_are : (rows : List Row) → bytes_of (map (key_of true schema) rows) ≡ map (row_spelling schema) rows
  bytes_are [] = refl
  bytes_are (row ∷ rows) = ap (λ (bs : List (List ℕ)). row_spelling schema row ∷ bs) (bytes_are rows)

  pub all_present : (rows : List Row) → All (λ k. is_some k ≡ true) (map (key_of true schema) rows)
  all_present [] = All-nil (λ (k : Key). is_some k ≡ true)
  all_present (row ∷ rows) = All-cons (λ (k : Key). is_some k ≡ true) (key_of true schema row) (map (key_of true schema) rows) refl (all_present rows)

  pub all_spelled : (rows : List Row) → All (IsRowOf schema) rows → All (IsSpelling schema) (map (row_spelling schema) rows)
  all_spelled [] h = All-nil (IsSpelling schema)
  all_spelled (row ∷ rows) h =
      All-cons (IsSpelling schema) (row_spelling schema row) (map (row_spelling schema) rows)
      (row, record { of = All-head (IsRowOf schema) row rows h; same = refl })
      (all_spelled rows (All-tail (IsRowOf schema) row rows h))
