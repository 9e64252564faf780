-- The query of a generated input is not refused.
use Rattle.std.proofs.Common.{◌≡◌, ℕ, ◌*◌, ◌<◌, ◌≤◌, false, List, [], ◌∷◌, length, None, refl, append-nil, arith}
use Rattle.std.proofs.lemmas.Bool.{le-ltb, lt-leb}
use Rattle.std.proofs.lemmas.List.FromFn.{length-map-range_with_len}
use Rattle.col_core.specs.Tables.{Table}
use Rattle.join_query.specs.declared.query.Query.{Query}
use Rattle.join_query.specs.declared.limits.TheConstants.{DEFAULT_PLAN, MAX_ROWS, SIDE_LIMIT}
use Rattle.join_model.specs.Joined.{rows_of, joined_rows}
use Rattle.join_model.specs.Refusals.{checked_refusal, is_too_large, lists_too_many, refusal_of}
use Rattle.join_generator.specs.Generated.{build_row, build_table, generated_query, probe_row, probe_table}
use Rattle.join_generator.proofs.Short.{of_frames}

one_small : (t : Table) → length t.rows < SIDE_LIMIT → is_too_large (t ∷ []) ≡ false
one_small t h = rw (append-nil t.rows, lt-leb SIDE_LIMIT (length t.rows) h) refl

module _ (n : ℕ) (most : n ≤ 100000) where
  build_small : is_too_large (build_table n ∷ []) ≡ false
  build_small = let long = length-map-range_with_len build_row 0 n in one_small (build_table n) (omega (arith, most, long))

  probe_small : is_too_large (probe_table n ∷ []) ≡ false
  probe_small = let long = length-map-range_with_len (probe_row n) 0 (4 * n) in one_small (probe_table n) (omega (arith, most, long))

  few_listed : lists_too_many generated_query (build_table n ∷ []) (probe_table n ∷ []) ≡ false
  few_listed =
      let few = of_frames n in
      le-ltb MAX_ROWS (length (joined_rows generated_query (rows_of (build_table n ∷ [])) (rows_of (probe_table n ∷ [])))) (omega (arith, most, few))

  checked : checked_refusal generated_query (build_table n ∷ []) (probe_table n ∷ []) ≡ None
  checked = rw (build_small, probe_small) refl

  accepted : refusal_of generated_query (build_table n ∷ []) (probe_table n ∷ []) ≡ None
  accepted = rw (checked, few_listed) refl

pub accepted_as : (n : ℕ) (q : Query) (b p : List Table) → n ≤ 100000 → q ≡ generated_query → b ≡ build_table n ∷ [] → p ≡ probe_table n ∷ [] → refusal_of q b p ≡ None
accepted_as n q b p most e f g = rw (e, f, g) (accepted n most)
