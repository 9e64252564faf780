-- Pairs of the tables of some frames are the laws' probed pairs; and what their positions fit.
use Rattle.std.proofs.Common.{◌≡◌, ℕ, zero, suc, ◌+◌, ◌-◌, ◌<◌, ◌≤◌, eqb, Bool, true, false, not, ◌&&◌, ◌||◌, cond, List, [], ◌∷◌, ◌++◌, map, filter, flat_map, fold, length, get_or, take, drop, refl, sym, ap, ap₂, ◌∙◌, subst, inl, inr, append-nil, append_assoc, arith, Option, Some, None, is_none, option_map, bytes_eq}
use Rattle.std.specs.List.{list_any, range_with_len, All, position_or_len}
use Rattle.std.proofs.lemmas.Bool.{cases_lt, cases_Bool, eqb-true, eq-eqb}
use Rattle.std.proofs.lemmas.Slice.Eq.{bytes_eq-Decides}
use Rattle.std.proofs.lemmas.List.{length-append, length-map, map-append, take-map}
use Rattle.std.proofs.lemmas.List.FromFn.{get_or-map-range_with_len, length-map-range_with_len, length-range_with_len}
use mathlib.Core.List.{map-map}
use Rattle.chunked_idx_table.specs.Probes.{is_key as is_joined, found, found_key, joins_any, keys_at, mark_entry, marked_more, matches, or_null}
use Rattle.chunked_idx_table.specs.Tables.{KeyEntry, ProbeTable}
use Rattle.hash_keys.specs.Keys.{Key}
use Rattle.join_laws.specs.Deals.{build_row, chunk, frame_keys, inserted, is_key, keys_join, null_positions, partners, positions_where, table_keys, table_positions}
use Rattle.join_laws.specs.Locals.{at_key}
use Rattle.join_laws.specs.declared.Pair.{Pair}
use Rattle.join_laws.specs.Pairs.{pairs_with, probed_pairs}
use Rattle.join_laws.specs.Partitions.{dealt, AreFronts, InPlaces, IsFound, Stands, StandsMore, TableFits, deals, marked_parts, no_table, part_pairs, parts_pairs, places_of, row_of, row_pairs, table_of, tables_of}
use Rattle.col_core.specs.declared.row_place.RowPlace.{RowPlace}
use Rattle.key_parts.specs.Positions.{Position}
use Rattle.key_parts.specs.declared.hash.PlRandomState.{PlRandomState}
use Rattle.join_laws.proofs.Unmatched.{parts_keys}
use Rattle.list_laws.proofs.Each.{Each-all, Each-append, Each-filter, Each-filtered, Each-flat_map, Each-weaker, Each-map}
use Rattle.list_laws.proofs.Filters.{filter_implied}
use Rattle.list_laws.proofs.Keys.{list_any-map}
use Rattle.list_laws.proofs.Lists.{get_or_past, made_same, map_same}
use Rattle.list_laws.proofs.Maps.{flat_map_agree, flat_map_same, read_all}
use Rattle.list_laws.proofs.Ranges.{Each-range}
use Rattle.list_laws.specs.Each.{Each}

get_or_map_all : {A B : Type 0} (f : A → B) (xs : List A) (i : ℕ) (d : A) → get_or (map f xs) i (f d) ≡ f (get_or xs i d)
get_or_map_all f [] i d = refl
get_or_map_all f (x ∷ xs) zero d = refl
get_or_map_all f (x ∷ xs) (suc i) d = get_or_map_all f xs i d

abbrev slot_of : (List ℕ → List Position) → (List ℕ → Bool) → List ℕ → KeyEntry
slot_of ps m k = record { key = k; positions = ps k; marked = m k }

-- what is found among slots, as a column
found_at_key : (ps : List ℕ → List Position) (m : List ℕ → Bool) (ks : List (List ℕ)) (k : List ℕ) → found (map (slot_of ps m) ks) k ≡ at_key bytes_eq ks (map ps ks) k []
found_at_key ps m [] k = refl
found_at_key ps m (x ∷ ks) k = elim (cases_Bool (bytes_eq x k)) [
  | inl same ↦ rw same refl
  | inr apart ↦ rw (apart, one) (found_at_key ps m ks k)
]
  where
    one : 1 + position_or_len (λ s. bytes_eq s k) ks ≡ suc (position_or_len (λ s. bytes_eq s k) ks)
    one = omega arith

-- the list of a partition in a frame
pub list_at : (part : Key → ℕ) (n : ℕ) (frames : List (List Key)) (f p : ℕ) → p < n → get_or (get_or (places_of part n frames) f []) p [] ≡ dealt part p (get_or frames f [])
list_at part n frames f p h = elim (cases_lt f (length frames)) [
  | inl less ↦ ap (λ (l : List (List ℕ)). get_or l p []) (ap (λ d. get_or (places_of part n frames) f d) refl ∙ inside frames f less) ∙ get_or-map-range_with_len (λ q. dealt part q (get_or frames f [])) 0 n p p [] h (omega arith)
  | inr past ↦ ap (λ (l : List (List ℕ)). get_or l p []) (get_or_past (places_of part n frames) f [] (omega (arith, length-map frames (deals part n)))) ∙ sym (ap (dealt part p) (get_or_past frames f [] past))
]
  where
    inside : (fs : List (List Key)) (f : ℕ) → f < length fs → get_or (map (deals part n) fs) f [] ≡ deals part n (get_or fs f [])
    inside [] f l = absurd (omega arith)
    inside (x ∷ fs) zero l = refl
    inside (x ∷ fs) (suc f) l = inside fs f (omega arith)

module _ (part : Key → ℕ) (state : PlRandomState) (n : ℕ) (frames : List (List Key)) where
  row_is : (p : ℕ) → p < n → (x : Position) → row_of (places_of part n frames) p x ≡ build_row bytes_eq part frames p x
  row_is p h x = ap (λ (l : List ℕ). record { frame = x.chunk; row = get_or l x.row 0 }) (list_at part n frames x.chunk p h)

  pub map_rows : (p : ℕ) → p < n → (xs : List Position) → map (row_of (places_of part n frames) p) xs ≡ map (build_row bytes_eq part frames p) xs
  map_rows p h xs = map_same _ _ xs (Each-all _ xs (row_is p h))

  -- the pairs of a row are those with its partners
  row_pairs_with : (places : List (List (List ℕ))) (p i : ℕ) (keep : Bool) (xs : List Position) → row_pairs places p i (or_null keep xs) ≡ pairs_with keep i (map (row_of places p) xs)
  row_pairs_with places p i true [] = refl
  row_pairs_with places p i false [] = refl
  row_pairs_with places p i keep (x ∷ xs) = ap (λ t. pair (row_of places p x) ∷ t) (map-map (λ m. record { probe = Some i; build = option_map (row_of places p) m }) (λ y. Some y) xs ∙ sym (map-map pair (row_of places p) xs))
    where
      pair : RowPlace → Pair
      pair y = record { probe = Some i; build = Some y }

  one_row : (marked : List ℕ → Bool) (keep : Bool) (p i : ℕ) → p < n → (o : Key) → part o ≡ p → row_pairs (places_of part n frames) p i (matches (table_of part state frames marked p).entries keep o) ≡ pairs_with keep i (partners bytes_eq part frames o)
  one_row marked keep p i h None e = row_pairs_with (places_of part n frames) p i keep []
  one_row marked keep p i h (Some k) e =
      row_pairs_with (places_of part n frames) p i keep (found (table_of part state frames marked p).entries k)
      ∙ ap (pairs_with keep i) (map_rows p h (found (table_of part state frames marked p).entries k)
      ∙ ap (map (build_row bytes_eq part frames p)) (found_at_key (table_positions bytes_eq part frames p) marked (table_keys bytes_eq part frames p) k)
      ∙ ap (λ (q : ℕ). map (build_row bytes_eq part frames q) (at_key bytes_eq (table_keys bytes_eq part frames q) (map (table_positions bytes_eq part frames q) (table_keys bytes_eq part frames q)) k [])) (sym e))

  -- what each row gives
  abbrev pub gives : Bool → List Key → ℕ → List Pair
  gives keep keys i = pairs_with keep i (partners bytes_eq part frames (get_or keys i None))

  own_pairs : (keep : Bool) (i : ℕ) (xs : List RowPlace) → Each (λ (q : Pair). q.probe ≡ Some i) (pairs_with keep i xs)
  own_pairs true i [] = (refl, tt)
  own_pairs false i [] = tt
  own_pairs keep i (x ∷ xs) = (refl, own xs)
    where
      own : (ys : List RowPlace) → Each (λ (q : Pair). q.probe ≡ Some i) (map (λ y. record { probe = Some i; build = Some y }) ys)
      own [] = tt
      own (y ∷ ys) = (refl, own ys)

  -- the pairs of all partitions
  pub parts_found : (marked : List ℕ → Bool) (keep : Bool) (keys : List Key) → IsFound part n keys (gives keep keys) (parts_pairs (places_of part n frames) keep keys (deals part n keys) (tables_of part state n frames marked))
  parts_found marked keep keys = record {
    found_are =
        ap (λ m. map (λ p. part_pairs (places_of part n frames) keep keys (get_or (tables_of part state n frames marked) p no_table) p (get_or (deals part n keys) p [])) (range_with_len 0 m)) (length-map-range_with_len (table_of part state frames marked) 0 n)
        ∙ map_same _ (λ p. flat_map (gives keep keys) (dealt part p keys)) (range_with_len 0 n) (Each-range _ 0 n (λ p l m.
        let h : p < n = omega arith in
        ap₂ (λ (t : ProbeTable) (ds : List ℕ). part_pairs (places_of part n frames) keep keys t p ds) (get_or-map-range_with_len (table_of part state frames marked) 0 n p p no_table h (omega arith)) (get_or-map-range_with_len (λ q. dealt part q keys) 0 n p p [] h (omega arith))
        ∙ flat_map_same _ (gives keep keys) (dealt part p keys) (Each-weaker (λ i. eqb (part (get_or keys i None)) p ≡ true) _ (dealt part p keys) (λ i e. one_row marked keep p i h (get_or keys i None) (eqb-true (part (get_or keys i None)) p e)) (Each-filtered (λ i. eqb (part (get_or keys i None)) p) (range_with_len 0 (length keys))))));
    own = λ i. own_pairs keep i (partners bytes_eq part frames (get_or keys i None));
  }

  -- each position has a build row
  pub table_fits : (marked : List ℕ → Bool) (p : ℕ) → TableFits (places_of part n frames) p (get_or (tables_of part state n frames marked) p no_table)
  table_fits marked p = elim (cases_lt p n) [
    | inl less ↦ subst (λ (t : ProbeTable). TableFits (places_of part n frames) p t) (sym (get_or-map-range_with_len (table_of part state frames marked) 0 n p p no_table less (omega arith))) (here less)
    | inr past ↦ subst (λ (t : ProbeTable). TableFits (places_of part n frames) p t) (sym (get_or_past (tables_of part state n frames marked) p no_table (omega (arith, length-map-range_with_len (table_of part state frames marked) 0 n)))) (record { entries_fit = tt; nulls_fit = tt })
  ]
    where
      rows : p < n → Each (λ (e : Key × Position). InPlaces (places_of part n frames) p e.1) (inserted bytes_eq part frames p)
      rows less = Each-flat_map (λ (e : Key × Position). InPlaces (places_of part n frames) p e.1) (chunk bytes_eq part frames p) (range_with_len 0 (length frames)) (Each-all _ _ (λ f.
          let ds = dealt part p (get_or frames f []) in
          Each-map (λ (e : Key × Position). InPlaces (places_of part n frames) p e.1) _ (range_with_len 0 (length ds)) (Each-range _ 0 (length ds) (λ j l m.
          let e = ap length (list_at part n frames f p less) in
          omega arith))))

      passed : (q : Key → Bool) → p < n → Each (InPlaces (places_of part n frames) p) (positions_where bytes_eq part frames q p)
      passed q less = Each-map (InPlaces (places_of part n frames) p) (λ (e : Key × Position). e.1) (filter (λ e. q e.0) (inserted bytes_eq part frames p)) (Each-filter (λ (e : Key × Position). InPlaces (places_of part n frames) p e.1) (λ e. q e.0) (inserted bytes_eq part frames p) (rows less))

      here : p < n → TableFits (places_of part n frames) p (table_of part state frames marked p)
      here less = record {
        entries_fit = Each-map (λ (s : KeyEntry). Each (InPlaces (places_of part n frames) p) s.positions) (slot_of (table_positions bytes_eq part frames p) marked) (table_keys bytes_eq part frames p) (Each-all _ _ (λ k. passed (is_key bytes_eq k) less));
        nulls_fit = passed is_none less;
      }

  -- a key is joined by some of its partition's rows where it is by some row
  joins_dealt : (keys : List Key) (p : ℕ) (k : List ℕ) → part (Some k) ≡ p → joins_any (keys_at keys (dealt part p keys)) k ≡ joins_any keys k
  joins_dealt keys p k e =
      list_any-map joins (λ i. get_or keys i None) (dealt part p keys)
      ∙ any_implied (λ i. eqb (part (get_or keys i None)) p) (λ i. joins (get_or keys i None)) (λ i h. eq-eqb (part (get_or keys i None)) p (same (get_or keys i None) h)) (range_with_len 0 (length keys))
      ∙ sym (list_any-map joins (λ i. get_or keys i None) (range_with_len 0 (length keys)))
      ∙ ap (list_any joins) (read_all keys None)
    where
      joins : Key → Bool
      joins o = is_joined k o

      same : (o : Key) → is_joined k o ≡ true → part o ≡ p
      same None h = absurd (let no : false ≡ true = h in cc)
      same (Some j) h = ap (λ (x : List ℕ). part (Some x)) (sym ((bytes_eq-Decides k j).0 h)) ∙ e

      any_implied : {X : Type 0} (t q : X → Bool) → ((x : X) → q x ≡ true → t x ≡ true) → (xs : List X) → list_any q (filter t xs) ≡ list_any q xs
      any_implied t q h [] = refl
      any_implied {X} t q h (x ∷ xs) = elim (cases_Bool (t x)) [
        | inl yes' ↦ rw yes' (ap (λ b. q x || b) (any_implied t q h xs))
        | inr no' ↦ rw (no', not_q (q x) refl no') (any_implied t q h xs)
      ]
        where
          not_q : (b : Bool) → q x ≡ b → t x ≡ false → q x ≡ false
          not_q true e' f = absurd (let no : true ≡ false = sym (h x e') ∙ f in cc)
          not_q false e' f = e'

  -- the marks of the tables, as a test of the key
  pub tables_marked : (marked : List ℕ → Bool) (keys : List Key) → marked_parts keys (deals part n keys) (tables_of part state n frames marked) ≡ tables_of part state n frames (λ k. marked k || joins_any keys k)
  tables_marked marked keys =
      ap (λ m. map (λ p. marked_more (joins_any (keys_at keys (get_or (deals part n keys) p []))) (get_or (tables_of part state n frames marked) p no_table)) (range_with_len 0 m)) (length-map-range_with_len (table_of part state frames marked) 0 n)
      ∙ map_same _ (table_of part state frames (λ k. marked k || joins_any keys k)) (range_with_len 0 n) (Each-range _ 0 n (λ p l m.
      let h : p < n = omega arith in
      ap₂ (λ (ds : List ℕ) (t : ProbeTable). marked_more (joins_any (keys_at keys ds)) t) (get_or-map-range_with_len (λ q. dealt part q keys) 0 n p p [] h (omega arith)) (get_or-map-range_with_len (table_of part state frames marked) 0 n p p no_table h (omega arith))
      ∙ ap (λ (es : List KeyEntry). record { entries = es; nulls = null_positions bytes_eq part frames p; chunks = length frames; state = state })
      (map-map (mark_entry (joins_any (keys_at keys (dealt part p keys)))) (slot_of (table_positions bytes_eq part frames p) marked) (table_keys bytes_eq part frames p)
      ∙ map_same _ _ (table_keys bytes_eq part frames p) (Each-weaker (λ k. part (Some k) ≡ p) _ (table_keys bytes_eq part frames p) (λ k e. ap (λ b. slot_of (table_positions bytes_eq part frames p) (λ _. marked k || b) k) (joins_dealt keys p k e)) (parts_keys bytes_eq bytes_eq-Decides part frames marked p)))))

  any_front : {X : Type 0} (q : X → Bool) (i : ℕ) (xs : List X) → list_any q (take i xs) ≡ true → list_any q xs ≡ true
  any_front q zero xs h = absurd (let no : false ≡ true = h in cc)
  any_front q (suc i) [] h = h
  any_front q (suc i) (x ∷ xs) h = elim (cases_Bool (q x)) [
    | inl yes' ↦ rw yes' refl
    | inr no' ↦ rw no' (any_front q i xs (rw no' at h))
  ]

  -- the tables after fronts of their rows are marked
  pub tables_fronts : (marked : List ℕ → Bool) (keys : List Key) (news : List ProbeTable) (ps : List (List (List ℕ))) → length news ≡ n → ps ≡ places_of part n frames → AreFronts keys (deals part n keys) (tables_of part state n frames marked) news → StandsMore part state n frames marked keys news ps
  tables_fronts marked keys news ps long places h = record {
    more = more;
    joined = λ k e. sym (joins_dealt keys (part (Some k)) k refl) ∙ sub k e;
    stands = record {
      tables_are = sym (made_same (table_of part state frames (λ k. marked k || more k)) n news no_table long (λ p l. sym ((h p).1 ∙ same p l)));
      places_are = places;
    };
  }
    where
      more : List ℕ → Bool
      more k = joins_any (keys_at keys (take (h (part (Some k))).0 (get_or (deals part n keys) (part (Some k)) []))) k

      sub : (k : List ℕ) → more k ≡ true → joins_any (keys_at keys (dealt part (part (Some k)) keys)) k ≡ true
      sub k e =
          let p = part (Some k) in
          let ds = get_or (deals part n keys) p [] in
          let q : Key → Bool = is_joined k in
          let all : list_any q (keys_at keys ds) ≡ true = any_front q (h p).0 (keys_at keys ds) (ap (list_any q) (take-map (λ i. get_or keys i None) (h p).0 ds) ∙ e) in
          elim (cases_lt p n) [
            | inl less ↦ ap (λ (rs : List ℕ). list_any q (keys_at keys rs)) (sym (get_or-map-range_with_len (λ r. dealt part r keys) 0 n p p [] less (omega arith))) ∙ all
            | inr past ↦ absurd (
                let none : ds ≡ [] = get_or_past (deals part n keys) p [] (omega (arith, length-map-range_with_len (λ r. dealt part r keys) 0 n)) in
                let no : false ≡ true = ap (λ (rs : List ℕ). list_any q (keys_at keys rs)) (sym none) ∙ all in cc)
          ]

      same : (p : ℕ) → p < n → marked_more (joins_any (keys_at keys (take (h p).0 (get_or (deals part n keys) p [])))) (get_or (tables_of part state n frames marked) p no_table) ≡ table_of part state frames (λ k. marked k || more k) p
      same p l =
          let front : ℕ → List Key = λ r. keys_at keys (take (h r).0 (get_or (deals part n keys) r [])) in
          ap (marked_more (joins_any (front p))) (get_or-map-range_with_len (table_of part state frames marked) 0 n p p no_table l (omega arith))
          ∙ ap (λ (es : List KeyEntry). record { entries = es; nulls = null_positions bytes_eq part frames p; chunks = length frames; state = state })
          (map-map (mark_entry (joins_any (front p))) (slot_of (table_positions bytes_eq part frames p) marked) (table_keys bytes_eq part frames p)
          ∙ map_same _ _ (table_keys bytes_eq part frames p) (Each-weaker (λ k. part (Some k) ≡ p) _ (table_keys bytes_eq part frames p) (λ k e. ap (λ (r : ℕ). slot_of (table_positions bytes_eq part frames p) (λ _. marked k || joins_any (front r) k) k) (sym e)) (parts_keys bytes_eq bytes_eq-Decides part frames marked p)))
