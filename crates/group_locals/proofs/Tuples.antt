-- Groups of keys as bytes, where the bytes spell tuples.
use Rattle.std.proofs.Common.{◌≡◌, ℕ, Bool, List, [], ◌∷◌, map, filter, fold, sym, ap, ◌∙◌, inl, inr, bytes_eq}
use Rattle.std.specs.List.{list_any}
use Rattle.std.proofs.lemmas.Bool.{cases_Bool}
use Rattle.std.proofs.lemmas.List.Folds.{flat_map-map}
use mathlib.Core.List.{map-map}
use Rattle.col_core.specs.declared.leaf.Leaf.{Leaf}
use Rattle.col_core.specs.Tables.{Row}
use Rattle.col_core.specs.Values.{value_at}
use Rattle.reduce_model.specs.Folds.{fold_of}
use Rattle.reduce_states.specs.Reductions.{Shape}
use Rattle.list_laws.specs.Each.{Each}
use Rattle.list_laws.specs.Distinct.{distinct, with_new}
use Rattle.list_laws.proofs.Each.{Each-append}
use Rattle.list_laws.proofs.Filters.{filter-map, filter_same}
use Rattle.list_laws.proofs.Lists.{map_same}
use Rattle.list_laws.proofs.Maps.{map-flat_map}
use Rattle.join_laws.specs.Locals.{rows_of_morsels}
use Rattle.join_laws.proofs.Bounds.{distinct-map}
use Rattle.group_locals.specs.Rows.{KeyedRow, values_for}
use Rattle.group_locals.specs.History.{all_keys, rows_with}

-- D compares tuples, `code` spells one, and the tuples that P allows are the same where they are spelled alike
module _ {X T : Type 0} (D : T → T → Bool) (tuple : X → T) (code : T → List ℕ) (values : X → Row) (P : T → Type 0) (same : (a b : T) → P a → P b → bytes_eq (code a) (code b) ≡ D a b) where
  -- a row with its tuple spelled
  abbrev pub spelled : X → KeyedRow
  spelled x = record { key = code (tuple x); values = values x }

  abbrev pub spelled_morsels : List (List X) → List (List KeyedRow)
  spelled_morsels ms = map (map spelled) ms

  -- the distinct tuples, by first appearance
  abbrev pub tuples : List (List X) → List T
  tuples ms = distinct D (map tuple (rows_of_morsels ms))

  rows_spelled : (ms : List (List X)) → rows_of_morsels (spelled_morsels ms) ≡ map spelled (rows_of_morsels ms)
  rows_spelled ms = flat_map-map (λ (m : List KeyedRow). m) (map spelled) ms ∙ sym (map-flat_map spelled (λ (m : List X). m) ms)

  module _ (ms : List (List X)) (good : Each (λ x. P (tuple x)) (rows_of_morsels ms)) where
    good_tuples : (xs : List X) → Each (λ x. P (tuple x)) xs → Each P (map tuple xs)
    good_tuples [] h = tt
    good_tuples (x ∷ xs) h = (h.0, good_tuples xs h.1)

    good_from : (seen ts : List T) → Each P seen → Each P ts → Each P (fold (with_new D) seen ts)
    good_from seen [] hs ht = hs
    good_from seen (t ∷ ts) hs ht = good_from (with_new D seen t) ts (elim (cases_Bool (list_any (λ s. D s t) seen)) [
      | inl old ↦ rw old hs
      | inr fresh ↦ rw fresh (Each-append P seen (t ∷ []) hs (ht.0, tt))
    ]) ht.1

    -- the keys spell the tuples
    pub keys_spelled : all_keys (spelled_morsels ms) ≡ map code (tuples ms)
    keys_spelled =
        ap (λ (rows : List KeyedRow). distinct bytes_eq (map (λ row. row.key) rows)) (rows_spelled ms)
        ∙ ap (distinct bytes_eq) (map-map (λ (row : KeyedRow). row.key) spelled (rows_of_morsels ms) ∙ sym (map-map code tuple (rows_of_morsels ms)))
        ∙ distinct-map D bytes_eq P code same [] (map tuple (rows_of_morsels ms)) tt (good_tuples (rows_of_morsels ms) good)

    -- the rows of a spelled tuple are those of the tuple
    rows_of_tuple : (t : T) → P t → rows_with (spelled_morsels ms) (code t) ≡ map spelled (filter (λ x. D (tuple x) t) (rows_of_morsels ms))
    rows_of_tuple t p =
        ap (filter (λ (row : KeyedRow). bytes_eq row.key (code t))) (rows_spelled ms)
        ∙ filter-map (λ (row : KeyedRow). bytes_eq row.key (code t)) spelled (rows_of_morsels ms)
        ∙ ap (map spelled) (filter_same (λ x. bytes_eq (code (tuple x)) (code t)) (λ x. D (tuple x) t) (rows_of_morsels ms) (alike (rows_of_morsels ms) good))
      where
        alike : (xs : List X) → Each (λ x. P (tuple x)) xs → Each (λ x. bytes_eq (code (tuple x)) (code t) ≡ D (tuple x) t) xs
        alike [] h = tt
        alike (x ∷ xs) h = (same (tuple x) t h.0 p, alike xs h.1)

    -- what a reduction gives for the keys is what it gives for the tuples
    pub column_spelled : (s : Shape) (r : ℕ) → map (λ k. fold_of s.kind s.dtype (values_for r (rows_with (spelled_morsels ms) k))) (all_keys (spelled_morsels ms)) ≡ map (λ t. fold_of s.kind s.dtype (map (λ x. value_at (values x) r) (filter (λ x. D (tuple x) t) (rows_of_morsels ms)))) (tuples ms)
    column_spelled s r =
        ap (map of_key) keys_spelled
        ∙ map-map of_key code (tuples ms)
        ∙ map_same (λ t. of_key (code t)) of_tuple (tuples ms) (each (tuples ms) (good_from [] (map tuple (rows_of_morsels ms)) tt (good_tuples (rows_of_morsels ms) good)))
      where
        of_key : List ℕ → Leaf
        of_key k = fold_of s.kind s.dtype (values_for r (rows_with (spelled_morsels ms) k))

        of_tuple : T → Leaf
        of_tuple t = fold_of s.kind s.dtype (map (λ x. value_at (values x) r) (filter (λ x. D (tuple x) t) (rows_of_morsels ms)))

        each : (ts : List T) → Each P ts → Each (λ t. of_key (code t) ≡ of_tuple t) ts
        each [] h = tt
        each (t ∷ ts) h = (ap (λ (rows : List KeyedRow). fold_of s.kind s.dtype (values_for r rows)) (rows_of_tuple t h.0) ∙ ap (fold_of s.kind s.dtype) (map-map (λ (row : KeyedRow). value_at row.values r) spelled (filter (λ x. D (tuple x) t) (rows_of_morsels ms))), each ts h.1)
