-- The keys of rows, none of which is null, are what the rows spell.
use Rattle.std.proofs.Common.{◌≡◌, ℕ, Bool, true, false, not, ◌&&◌, cond, List, [], ◌∷◌, map, is_some, None, Some, refl, sym, ap₂, subst}
use Rattle.std.specs.Prelude.{unwrap_or}
use Rattle.std.specs.List.{All, list_any}
use Rattle.std.proofs.lemmas.List.Elements.{All-head, All-tail, All-map, All-weaker}
use Rattle.col_core.specs.declared.schema.Field.{Field}
use Rattle.col_core.specs.Values.{is_null}
use Rattle.col_core.specs.Tables.{Row, Table}
use Rattle.row_code.specs.Spelling.{row_spelling, IsRowOf, IsSpelling}
use Rattle.hash_keys.specs.Keys.{Key}
use Rattle.hash_keys.specs.Rows.{key_of, row_keys}
use Rattle.key_groups.specs.Groups.{bytes_of}

-- no row's key is null
abbrev AllPresent : List Key → Type 0
AllPresent keys = All (λ k. is_some k ≡ true) keys

module _ (null_is_valid : Bool) (schema : List Field) where
  bytes_of_rows : (rows : List Row) → AllPresent (map (key_of null_is_valid schema) rows) → bytes_of (map (key_of null_is_valid schema) rows) ≡ map (row_spelling schema) rows
  bytes_of_rows [] h = refl
  bytes_of_rows (row ∷ rows) h =
      let present : Key → Type 0 = λ k. is_some k ≡ true in
      ap₂ (λ (b : List ℕ) (bs : List (List ℕ)). b ∷ bs)
      (here (not null_is_valid && list_any is_null row) (All-head present (key_of null_is_valid schema row) (map (key_of null_is_valid schema) rows) h))
      (bytes_of_rows rows (All-tail present (key_of null_is_valid schema row) (map (key_of null_is_valid schema) rows) h))
    where
      here : (null : Bool) → is_some (cond null None (Some (row_spelling schema row))) ≡ true → unwrap_or (cond null None (Some (row_spelling schema row))) [] ≡ row_spelling schema row
      here true e = absurd (cc)
      here false e = refl

-- the bytes of the keys of a table's rows are what the rows spell
pub bytes_of-row_keys : (null_is_valid : Bool) (t : Table) → AllPresent (row_keys null_is_valid t) → bytes_of (row_keys null_is_valid t) ≡ map (row_spelling t.schema) t.rows
bytes_of-row_keys null_is_valid t h = bytes_of_rows null_is_valid t.schema t.rows h

pub spelled_rows : (schema : List Field) (rows : List Row) → All (IsRowOf schema) rows → All (IsSpelling schema) (map (row_spelling schema) rows)
spelled_rows schema rows h = All-map (IsSpelling schema) (row_spelling schema) rows
    (All-weaker (IsRowOf schema) (λ row. IsSpelling schema (row_spelling schema row)) (λ row r. (row, record { of = r; same = refl })) rows h)

-- so the keys of rows of the key schema may be given to a grouper
pub spelled_keys : (null_is_valid : Bool) (t : Table) → All (IsRowOf t.schema) t.rows → AllPresent (row_keys null_is_valid t) → All (IsSpelling t.schema) (bytes_of (row_keys null_is_valid t))
spelled_keys null_is_valid t rows h = subst (All (IsSpelling t.schema)) (sym (bytes_of-row_keys null_is_valid t h)) (spelled_rows t.schema t.rows rows)
