-- Rows put into a table one by one give the table of all rows.
use Rattle.std.proofs.Common.{◌≡◌, ℕ, bytes_eq, Bool, true, false, ◌||◌, cond, List, [], ◌∷◌, ◌++◌, map, filter, fold, refl, sym, ap, ap₂, ◌∙◌, subst, inl, inr, Option, Some, None, append-nil, append_assoc}
use Rattle.std.proofs.lemmas.Slice.Eq.{bytes_eq-Decides}
use Rattle.std.specs.List.{list_any}
use Rattle.std.proofs.lemmas.Bool.{cases_Bool, or_parts}
use Rattle.std.proofs.lemmas.List.{map-append}
use Rattle.std.proofs.lemmas.List.Elements.{filter-append}
use Rattle.std.proofs.lemmas.List.Sums.{fold_push}
use Rattle.join_laws.specs.Deals.{is_key, present}
use Rattle.key_parts.specs.Positions.{Position}
use Rattle.hash_keys.specs.Keys.{Key}
use Rattle.chunked_idx_table.specs.Tables.{KeyEntry}
use Rattle.chunked_idx_table.specs.Inserts.{with_position, with_row}
use Rattle.join_laws.specs.Inserts.{positions_of, entries_of}
use Rattle.list_laws.proofs.Distinct.{any_distinct}
use Rattle.list_laws.proofs.Filters.{filter-absent}
use Rattle.list_laws.proofs.Keys.{list_any-map, distinct_apart, flips_false, same_self}
use Rattle.list_laws.specs.Distinct.{NoRepeat, distinct, with_new}

abbrev pub entry_with : (List ℕ → List Position) → List ℕ → KeyEntry
entry_with p k = record { key = k; positions = p k; marked = false }

others : (p p' : List ℕ → List Position) (k : List ℕ) → ((j : List ℕ) → bytes_eq j k ≡ false → p' j ≡ p j) → (ds : List (List ℕ)) → list_any (λ s. bytes_eq s k) ds ≡ false → map (entry_with p') ds ≡ map (entry_with p) ds
others p p' k same [] h = refl
others p p' k same (d ∷ ds) h =
    let both = or_parts (bytes_eq d k) (list_any (λ s. bytes_eq s k) ds) h in
    ap₂ (λ (x : List Position) (t : List (KeyEntry)). record { key = d; positions = x; marked = false } ∷ t) (same d both.0) (others p p' k same ds both.1)

-- one more position, among distinct keys
put : (p p' : List ℕ → List Position) (k : List ℕ) (x : Position) → ((j : List ℕ) → bytes_eq j k ≡ false → p' j ≡ p j) → p' k ≡ p k ++ x ∷ [] → (ds : List (List ℕ)) → NoRepeat bytes_eq ds → (list_any (λ s. bytes_eq s k) ds ≡ false → p k ≡ []) → with_position (map (entry_with p) ds) k x ≡ map (entry_with p') (with_new bytes_eq ds k)
put p p' k x same here [] n none = ap (λ (y : List Position). record { key = k; positions = y; marked = false } ∷ []) (sym (here ∙ ap (λ y. y ++ x ∷ []) (none refl)))
put p p' k x same here (d ∷ ds) n none = elim (cases_Bool (bytes_eq d k)) [
  | inl equal ↦
      let at : d ≡ k = (bytes_eq-Decides d k).0 equal in
      rw equal (ap₂ (λ (y : List Position) (t : List (KeyEntry)). record { key = d; positions = y; marked = false } ∷ t) (sym (ap p' at ∙ here ∙ ap (λ j. p j ++ x ∷ []) (sym at))) (sym (others p p' k same ds (subst (λ (j : List ℕ). list_any (λ s. bytes_eq s j) ds ≡ false) at n.0))))
  | inr apart ↦ rw apart (ap₂ (λ (y : List Position) (t : List (KeyEntry)). record { key = d; positions = y; marked = false } ∷ t) (sym (same d apart)) (put p p' k x same here ds n.1 (λ e. none (rw apart e))) ∙ inside (list_any (λ s. bytes_eq s k) ds))
]
  where
    inside : (b : Bool) → entry_with p' d ∷ map (entry_with p') (cond b ds (ds ++ k ∷ [])) ≡ map (entry_with p') (cond b (d ∷ ds) (d ∷ (ds ++ k ∷ [])))
    inside true = refl
    inside false = refl

present-append : (xs ys : List Key) → present (xs ++ ys) ≡ present xs ++ present ys
present-append [] ys = refl
present-append (None ∷ xs) ys = present-append xs ys
present-append (Some k ∷ xs) ys = ap (λ t. k ∷ t) (present-append xs ys)

any_present : (ks : List Key) (k : List ℕ) → list_any (λ s. bytes_eq s k) (present ks) ≡ list_any (is_key bytes_eq k) ks
any_present [] k = refl
any_present (None ∷ ks) k = any_present ks k
any_present (Some j ∷ ks) k = ap (λ b. bytes_eq j k || b) (any_present ks k)

-- the table of rows, and one more
pub entries_more : (es : List (Key × Position)) (e : Key × Position) → with_row (entries_of es) e ≡ entries_of (es ++ e ∷ [])
entries_more es (None, x) = sym (ap (map (entry_with (positions_of (es ++ (None, x) ∷ [])))) keys ∙ agree (distinct bytes_eq (present (map (λ e. e.0) es))))
  where
    keys : distinct bytes_eq (present (map (λ e. e.0) (es ++ (None, x) ∷ []))) ≡ distinct bytes_eq (present (map (λ e. e.0) es))
    keys = ap (λ ks. distinct bytes_eq (present ks)) (map-append (λ (e : Key × Position). e.0) es ((None, x) ∷ [])) ∙ ap (distinct bytes_eq) (present-append (map (λ e. e.0) es) (None ∷ []) ∙ append-nil (present (map (λ e. e.0) es)))

    agree : (ds : List (List ℕ)) → map (entry_with (positions_of (es ++ (None, x) ∷ []))) ds ≡ map (entry_with (positions_of es)) ds
    agree [] = refl
    agree (d ∷ ds) = ap₂ (λ (y : List Position) (t : List (KeyEntry)). record { key = d; positions = y; marked = false } ∷ t) (ap (map (λ e. e.1)) (filter-append (λ e. is_key bytes_eq d e.0) es ((None, x) ∷ []) ∙ append-nil (filter (λ e. is_key bytes_eq d e.0) es))) (agree ds)
entries_more es (Some k, x) = go
  where
    ds : List (List ℕ)
    ds = distinct bytes_eq (present (map (λ e. e.0) es))

    keys : distinct bytes_eq (present (map (λ e. e.0) (es ++ (Some k, x) ∷ []))) ≡ with_new bytes_eq (distinct bytes_eq (present (map (λ e. e.0) es))) k
    keys = ap (λ ks. distinct bytes_eq (present ks)) (map-append (λ (e : Key × Position). e.0) es ((Some k, x) ∷ [])) ∙ ap (distinct bytes_eq) (present-append (map (λ e. e.0) es) (Some k ∷ [])) ∙ fold_push (with_new bytes_eq) [] (present (map (λ e. e.0) es)) k

    same : (j : List ℕ) → bytes_eq j k ≡ false → positions_of (es ++ (Some k, x) ∷ []) j ≡ positions_of es j
    same j h = ap (map (λ e. e.1)) (filter-append (λ e. is_key bytes_eq j e.0) es ((Some k, x) ∷ []) ∙ rw (flips_false bytes_eq bytes_eq-Decides j k h) (append-nil (filter (λ e. is_key bytes_eq j e.0) es)))

    here : positions_of (es ++ (Some k, x) ∷ []) k ≡ positions_of es k ++ x ∷ []
    here = ap (map (λ e. e.1)) (filter-append (λ e. is_key bytes_eq k e.0) es ((Some k, x) ∷ []) ∙ rw (same_self bytes_eq bytes_eq-Decides k) refl) ∙ map-append (λ (e : Key × Position). e.1) (filter (λ e. is_key bytes_eq k e.0) es) ((Some k, x) ∷ [])

    absent : list_any (λ s. bytes_eq s k) (distinct bytes_eq (present (map (λ e. e.0) es))) ≡ false → positions_of es k ≡ []
    absent h = ap (map (λ e. e.1)) (filter-absent (λ e. is_key bytes_eq k e.0) es (sym (list_any-map (is_key bytes_eq k) (λ (e : Key × Position). e.0) es) ∙ sym (any_present (map (λ e. e.0) es) k) ∙ sym (any_distinct bytes_eq bytes_eq-Decides (present (map (λ e. e.0) es)) k) ∙ h))

    go : with_position (entries_of es) k x ≡ entries_of (es ++ (Some k, x) ∷ [])
    go = put (positions_of es) (positions_of (es ++ (Some k, x) ∷ [])) k x same here (distinct bytes_eq (present (map (λ e. e.0) es))) (distinct_apart bytes_eq bytes_eq-Decides (present (map (λ e. e.0) es))) absent ∙ ap (map (entry_with (positions_of (es ++ (Some k, x) ∷ [])))) (sym keys)

-- all rows
pub entries_all : (es rest : List (Key × Position)) → fold with_row (entries_of es) rest ≡ entries_of (es ++ rest)
entries_all es [] = ap entries_of (sym (append-nil es))
entries_all es (e ∷ rest) = ap (λ ss. fold with_row ss rest) (entries_more es e) ∙ entries_all (es ++ e ∷ []) rest ∙ ap entries_of (append_assoc es (e ∷ []) rest)
