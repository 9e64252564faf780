-- The build rows of unmarked keys and null rows.
use Rattle.std.proofs.Common.{◌≡◌, ℕ, zero, suc, ◌+◌, ◌-◌, ◌*◌, ◌^◌, ◌<◌, ◌≤◌, eqb, nat_le, Bool, true, false, not, ◌||◌, cond, List, [], ◌∷◌, ◌++◌, map, filter, flat_map, fold, length, get_or, take, drop, refl, sym, ap, ap₂, ◌∙◌, subst, inl, inr, append-nil, append_assoc, arith, Option, Some, None, bytes_eq, IsPermutation}
use Rattle.std.specs.List.{list_any, range_with_len, All}
use Rattle.std.proofs.lemmas.Bool.{cases_lt, cases_Bool}
use Rattle.std.proofs.lemmas.Slice.Eq.{bytes_eq-Decides}
use Rattle.std.proofs.lemmas.List.{length-append, length-map, map-append, take_all}
use Rattle.std.proofs.lemmas.List.Concat.{flat_map-append}
use Rattle.std.proofs.lemmas.List.Folds.{flat_map-map, length-flat_map-take}
use Rattle.std.proofs.lemmas.List.FromFn.{get_or-map-range_with_len, length-map-range_with_len}
use Rattle.chunked_idx_table.specs.Probes.{items}
use Rattle.chunked_idx_table.specs.Replies.{processed}
use Rattle.chunked_idx_table.specs.Tables.{KeyEntry, ProbeTable}
use Rattle.hash_keys.specs.Keys.{Key}
use Rattle.join_laws.proofs.BuildOrder.{place_number, unmatched_sorted}
use Rattle.join_laws.proofs.Found.{map_rows}
use Rattle.join_laws.proofs.Probes.{processed_some}
use Rattle.join_laws.proofs.Sizes.{table_room}
use Rattle.join_laws.specs.Deals.{build_row, null_positions, table_keys, table_positions, unmarked_positions, unmatched}
use Rattle.join_laws.specs.Partitions.{InPlaces, Stands, TableFits, item_rows, no_table, outer_rows, places_of, row_of, table_of, tables_of}
use Rattle.col_core.specs.declared.row_place.RowPlace.{RowPlace}
use Rattle.key_parts.specs.Positions.{Position}
use Rattle.key_parts.specs.declared.hash.PlRandomState.{PlRandomState}
use Rattle.list_laws.proofs.Each.{Each-all, Each-append}
use Rattle.list_laws.proofs.Lists.{get_or_past, map_same}
use Rattle.list_laws.proofs.Maps.{flat_map_same}
use Rattle.list_laws.proofs.Ranges.{Each-range}
use Rattle.list_laws.specs.Ascending.{Rises}
use Rattle.list_laws.specs.Each.{Each}

-- a reply of nothing comes past the end alone
pub processed_zero : {Q A : Type 0} (f : Q → List A) (limit : ℕ) (qs : List Q) → processed f limit qs ≡ 0 → qs ≡ []
processed_zero f limit [] h = refl
processed_zero f limit (q ∷ qs) h = absurd (let p = processed_some f limit (q ∷ qs) (omega arith) in omega arith)

-- each position that an item gives has a build row
pub items_fit : (places : List (List (List ℕ))) (p : ℕ) (t : ProbeTable) → TableFits places p t → Each (λ xs. Each (InPlaces places p) xs) (items t)
items_fit places p t h = Each-append (λ xs. Each (InPlaces places p) xs) (map (λ x. x ∷ []) t.nulls) (map (λ s. cond s.marked [] s.positions) t.entries) (singles t.nulls h.nulls_fit) (slots t.entries h.entries_fit)
  where
    singles : (xs : List Position) → Each (InPlaces places p) xs → Each (λ ys. Each (InPlaces places p) ys) (map (λ x. x ∷ []) xs)
    singles [] e = tt
    singles (x ∷ xs) e = ((e.0, tt), singles xs e.1)

    slots : (es : List KeyEntry) → Each (λ s. Each (InPlaces places p) s.positions) es → Each (λ ys. Each (InPlaces places p) ys) (map (λ s. cond s.marked [] s.positions) es)
    slots [] e = tt
    slots (s ∷ es) e = (elim s.marked as (λ v. Each (InPlaces places p) (cond v [] s.positions)) [ true ↦ tt | false ↦ e.0 ], slots es e.1)

pub some_items_fit : (places : List (List (List ℕ))) (p : ℕ) (xss : List (List Position)) (i n : ℕ) → Each (λ xs. Each (InPlaces places p) xs) xss → Each (InPlaces places p) (flat_map (λ x. x) (take n (drop i xss)))
some_items_fit places p xss i n h = all (take n (drop i xss)) (front n (drop i xss) (back i xss h))
  where
    back : (i : ℕ) (xss : List (List Position)) → Each (λ xs. Each (InPlaces places p) xs) xss → Each (λ xs. Each (InPlaces places p) xs) (drop i xss)
    back zero xss e = e
    back (suc i) [] e = tt
    back (suc i) (xs ∷ xss) e = back i xss e.1

    front : (n : ℕ) (xss : List (List Position)) → Each (λ xs. Each (InPlaces places p) xs) xss → Each (λ xs. Each (InPlaces places p) xs) (take n xss)
    front zero xss e = tt
    front (suc n) [] e = tt
    front (suc n) (xs ∷ xss) e = (e.0, front n xss e.1)

    all : (xss : List (List Position)) → Each (λ xs. Each (InPlaces places p) xs) xss → Each (InPlaces places p) (flat_map (λ x. x) xss)
    all [] e = tt
    all (xs ∷ xss) e = Each-append (InPlaces places p) xs (flat_map (λ x. x) xss) e.0 (all xss e.1)

module _ (part : Key → ℕ) (state : PlRandomState) (n : ℕ) (frames : List (List Key)) (marked : List ℕ → Bool) where
  -- the items of a table give its unmarked positions
  items_are : (p : ℕ) → flat_map (λ x. x) (items (table_of part state frames marked p)) ≡ unmarked_positions bytes_eq part frames marked p
  items_are p =
      flat_map-append (λ x. x) (map (λ x. x ∷ []) nulls) (map (λ s. cond s.marked [] s.positions) (table_of part state frames marked p).entries)
      ∙ ap₂ (λ a b. a ++ b) (singles nulls) (slots (table_keys bytes_eq part frames p))
    where
      nulls : List Position
      nulls = null_positions bytes_eq part frames p

      singles : (xs : List Position) → flat_map (λ x. x) (map (λ x. x ∷ []) xs) ≡ xs
      singles [] = refl
      singles (x ∷ xs) = ap (λ t. x ∷ t) (singles xs)

      slots : (ks : List (List ℕ)) → flat_map (λ x. x) (map (λ (s : KeyEntry). cond s.marked [] s.positions) (map (λ k. record { key = k; positions = table_positions bytes_eq part frames p k; marked = marked k }) ks)) ≡ flat_map (table_positions bytes_eq part frames p) (filter (λ k. not (marked k)) ks)
      slots [] = refl
      slots (k ∷ ks) = elim (cases_Bool (marked k)) [
        | inl yes' ↦ rw yes' (slots ks)
        | inr no' ↦ rw no' (ap (λ t. table_positions bytes_eq part frames p k ++ t) (slots ks))
      ]

  -- the rows of all tables, sorted, are the outer rows
  pub rows_sorted : (ts : List ProbeTable) (ps : List (List (List ℕ))) (rows sorted : List RowPlace) → ((o : Key) → part o < n) → Stands part state n frames marked ts ps → length (flat_map (λ f. f) frames) < 2 ^ 31 → rows ≡ flat_map (λ p. item_rows ps p (get_or ts p no_table)) (range_with_len 0 (length ts)) → IsPermutation rows sorted → Rises place_number sorted → sorted ≡ outer_rows part frames marked
  rows_sorted ts ps rows sorted below s few e perm up = unmatched_sorted bytes_eq bytes_eq-Decides part frames short marked n below sorted (subst (λ (rs : List RowPlace). IsPermutation rs sorted) all perm) up
    where
      short : (f : ℕ) → length (get_or frames f []) ≤ 4294967296
      short f = elim (cases_lt f (length frames)) [
        | inl less ↦ omega (arith, few, length-flat_map-take (λ (x : List Key). x) frames f [] less)
        | inr past ↦ omega (arith, ap length (get_or_past frames f [] past))
      ]

      all : rows ≡ unmatched bytes_eq part frames marked n
      all =
          e ∙ ap₂ (λ (qs : List (List (List ℕ))) (us : List ProbeTable). flat_map (λ p. item_rows qs p (get_or us p no_table)) (range_with_len 0 (length us))) s.places_are s.tables_are
          ∙ ap (λ m. flat_map (λ p. item_rows (places_of part n frames) p (get_or (tables_of part state n frames marked) p no_table)) (range_with_len 0 m)) (length-map-range_with_len (table_of part state frames marked) 0 n)
          ∙ flat_map_same _ _ (range_with_len 0 n) (Each-range _ 0 n (λ p l m.
          let h : p < n = omega arith in
          ap (item_rows (places_of part n frames) p) (get_or-map-range_with_len (table_of part state frames marked) 0 n p p no_table h (omega arith))
          ∙ map_rows part state n frames p h (flat_map (λ x. x) (items (table_of part state frames marked p)))
          ∙ ap (map (build_row bytes_eq part frames p)) (items_are p)))

  -- each table has few items
  pub items_few : (ts : List ProbeTable) (ps : List (List (List ℕ))) → Stands part state n frames marked ts ps → (p : ℕ) → length (items (get_or ts p no_table)) ≤ length (flat_map (λ f. f) frames)
  items_few ts ps s p =
      ap_le (ap (λ (us : List ProbeTable). length (items (get_or us p no_table))) s.tables_are) (elim (cases_lt p n) [
        | inl less ↦ ap_le (ap (λ (t : ProbeTable). length (items t)) (get_or-map-range_with_len (table_of part state frames marked) 0 n p p no_table less (omega arith))) (
            let t = table_of part state frames marked p in
            omega (arith, table_room part state frames marked p, length-append (map (λ (x : Position). x ∷ []) t.nulls) (map (λ (s : KeyEntry). cond s.marked [] s.positions) t.entries), length-map t.nulls (λ (x : Position). x ∷ []), length-map t.entries (λ (s : KeyEntry). cond s.marked [] s.positions)))
        | inr past ↦ ap_le (ap (λ (t : ProbeTable). length (items t)) (get_or_past (tables_of part state n frames marked) p no_table (omega (arith, length-map-range_with_len (table_of part state frames marked) 0 n)))) (omega arith)
      ])
    where
      ap_le : {a b c : ℕ} → a ≡ b → b ≤ c → a ≤ c
      ap_le e h = omega arith
