-- Bytes that spell rows, as the rows.
use Rattle.std.proofs.Common.{◌≡◌, ℕ, zero, suc, ◌<◌, List, [], ◌∷◌, map, length, get_or, refl, sym, ap, ap₂, ◌∙◌, arith}
use Rattle.std.specs.List.{All}
use Rattle.std.proofs.lemmas.List.Elements.{All-cons, All-nil}
use Rattle.col_core.specs.declared.schema.Field.{Field}
use Rattle.col_core.specs.Tables.{Row, Table}
use Rattle.row_code.specs.Spelling.{IsRowOf, IsSpelling, row_spelling}
use Rattle.list_laws.specs.Each.{Each}
use Rattle.list_laws.proofs.Each.{All-from_Each, Each-from_All}

-- the rows that some bytes spell
pub record AreSpelled (schema : List Field) (keys : List (List ℕ)) : Type 0 where
  pub rows : List Row
  pub fit : Each (IsRowOf schema) rows
  pub same : keys ≡ map (row_spelling schema) rows

spelled_rows : (schema : List Field) (keys : List (List ℕ)) → Each (IsSpelling schema) keys → AreSpelled schema keys
spelled_rows schema [] h = record { rows = []; fit = tt; same = refl }
spelled_rows schema (k ∷ ks) h =
    let rest = spelled_rows schema ks h.1 in
    record { rows = h.0.0 ∷ rest.rows; fit = (h.0.1.of, rest.fit); same = ap₂ (λ (b : List ℕ) (bs : List (List ℕ)). b ∷ bs) h.0.1.same rest.same }

-- a table of which each list of rows that the bytes spell is that of the rows
abbrev pub IsDecoded : List Field → List (List ℕ) → Table → Type 0
IsDecoded schema keys t = (rows : List Row) → All (IsRowOf schema) rows → keys ≡ map (row_spelling schema) rows → t ≡ record { schema = schema; rows = rows }

module _ (schema : List Field) (keys : List (List ℕ)) (t : Table) (spelled : All (IsSpelling schema) keys) (decoded : IsDecoded schema keys t) where
  rows : AreSpelled schema keys
  rows = spelled_rows schema keys (Each-from_All (IsSpelling schema) keys spelled)

  table_is : t ≡ record { schema = schema; rows = rows.rows }
  table_is = decoded rows.rows (All-from_Each (IsRowOf schema) rows.rows rows.fit) rows.same

  pub decoded_schema : t.schema ≡ schema
  decoded_schema = ap (λ (t : Table). t.schema) table_is

  pub decoded_fit : All (IsRowOf schema) t.rows
  decoded_fit = rw table_is (All-from_Each (IsRowOf schema) rows.rows rows.fit)

  pub decoded_spelled : keys ≡ map (row_spelling schema) t.rows
  decoded_spelled = rows.same ∙ sym (ap (λ (t : Table). map (row_spelling schema) t.rows) table_is)
