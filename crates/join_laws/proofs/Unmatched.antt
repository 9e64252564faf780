-- The unmatched positions of all tables, sorted back into build order, are the build rows that no probe row joins.
use Rattle.std.proofs.Common.{◌≡◌, ℕ, zero, suc, ◌+◌, ◌<◌, eqb, Bool, true, false, not, ◌||◌, cond, List, [], ◌∷◌, ◌++◌, map, filter, flat_map, fold, length, get_or, refl, sym, ap, ap₂, ◌∙◌, subst, inl, inr, arith, Option, Some, None, is_none, count_by}
use Rattle.std.specs.Bool.{Decides}
use Rattle.std.specs.List.{list_any, range_with_len}
use Rattle.std.proofs.lemmas.Bool.{false≢true, cases_Bool, or_parts, eqb-true, eq-eqb, eqb-false}
use Rattle.std.proofs.lemmas.List.{map-append}
use Rattle.std.proofs.lemmas.List.Folds.{flat_map-map}
use Rattle.std.proofs.lemmas.List.Sums.{sum_by-append}
use Rattle.join_laws.proofs.Deals.{found, is_key_is, no_positions}
use Rattle.join_laws.specs.Deals.{all_places, build_row, chunk, dealt, frame_keys, inserted, is_key, key_at, null_positions, positions_where, present, table_keys, table_positions, unmarked_positions, unmatched}
use Rattle.join_laws.specs.Outer.{is_outer}
use Rattle.col_core.specs.declared.row_place.RowPlace.{RowPlace}
use Rattle.key_parts.specs.Positions.{Position}
use Rattle.list_laws.proofs.Buckets.{all_bucketed}
use Rattle.list_laws.proofs.Each.{Each-append, Each-flat_map, Each-all, Each-filtered, Each-weaker, Each-map}
use Rattle.list_laws.proofs.Filters.{filter_implied, filter_same}
use Rattle.list_laws.proofs.Keys.{list_any-map, distinct_apart, same_self}
use Rattle.list_laws.proofs.Maps.{flat_map_same, map-flat_map}
use Rattle.list_laws.proofs.Ranges.{Each-range, eqb-Decides, in_range, range_apart}
use Rattle.list_laws.specs.Distinct.{NoRepeat, with_new}
use Rattle.list_laws.specs.Each.{Each}

each_read : {A : Type 0} (P : A → Type 0) (xs : List A) (i : ℕ) (d : A) → Each P xs → i < length xs → P (get_or xs i d)
each_read P [] i d h l = absurd (omega arith)
each_read P (x ∷ xs) zero d h l = h.0
each_read P (x ∷ xs) (suc i) d h l = each_read P xs i d h.1 (omega arith)

-- what holds of what stands in a list holds of each of it
each_member : {A : Type 0} (P : A → Type 0) (xs : List A) → ((x : A) → ((q : A → Bool) → q x ≡ true → list_any q xs ≡ true) → P x) → Each P xs
each_member {A} P xs h = go xs (λ q e. e)
  where
    or_true : (b : Bool) → (b || true) ≡ true
    or_true true = refl
    or_true false = refl

    go : (ys : List A) → ((q : A → Bool) → list_any q ys ≡ true → list_any q xs ≡ true) → Each P ys
    go [] sub = tt
    go (y ∷ ys) sub = (h y (λ q e. sub q (rw e refl)), go ys (λ q e. sub q (rw e (or_true (q y)))))

none_from_nil : {A : Type 0} (q : A → Bool) (xs : List A) → filter q xs ≡ [] → list_any q xs ≡ false
none_from_nil q xs h = elim (cases_Bool (list_any q xs)) [
  | inl some ↦ absurd (let n : length (filter q xs) ≡ 0 = ap length h in let m = more xs some in omega arith)
  | inr none ↦ none
]
  where
    more : (ys : List _) → list_any q ys ≡ true → 0 < length (filter q ys)
    more [] e = absurd (false≢true e)
    more (y ∷ ys) e = elim (cases_Bool (q y)) [
      | inl a ↦ rw a (omega arith)
      | inr b ↦ rw b (more ys (rw b at e))
    ]

no_repeat_filter : {K : Type 0} (E : K → K → Bool) (p : K → Bool) (xs : List K) → NoRepeat E xs → NoRepeat E (filter p xs)
no_repeat_filter E p [] n = tt
no_repeat_filter {K} E p (x ∷ xs) n = elim (p x) as (λ v. NoRepeat E (cond v (x ∷ filter p xs) (filter p xs))) [
  | true ↦ (fewer xs n.0, no_repeat_filter E p xs n.1)
  | false ↦ no_repeat_filter E p xs n.1
]
  where
    fewer : (ys : List K) → list_any (λ s. E s x) ys ≡ false → list_any (λ s. E s x) (filter p ys) ≡ false
    fewer [] h = refl
    fewer (y ∷ ys) h =
        let both = or_parts (E y x) (list_any (λ s. E s x) ys) h in
        elim (p y) as (λ v. list_any (λ s. E s x) (cond v (y ∷ filter p ys) (filter p ys)) ≡ false) [
          | true ↦ rw (both.0, fewer ys both.1) refl
          | false ↦ fewer ys both.1
        ]

each_distinct_from : {K : Type 0} (E : K → K → Bool) (P : K → Type 0) (seen ks : List K) → Each P seen → Each P ks → Each P (fold (with_new E) seen ks)
each_distinct_from E P seen [] hs hk = hs
each_distinct_from E P seen (k ∷ ks) hs hk = each_distinct_from E P (with_new E seen k) ks (elim (list_any (λ s. E s k) seen) as (λ v. Each P (cond v seen (seen ++ k ∷ []))) [
  | true ↦ hs
  | false ↦ Each-append P seen (k ∷ []) hs (hk.0, tt)
]) hk.1

each_filter_if : {A : Type 0} (P : A → Type 0) (p : A → Bool) (xs : List A) → Each (λ x. p x ≡ true → P x) xs → Each P (filter p xs)
each_filter_if P p [] h = tt
each_filter_if {A} P p (x ∷ xs) h = elim (p x) as (λ v. p x ≡ v → Each P (cond v (x ∷ filter p xs) (filter p xs))) [
  | true ↦ λ e. (h.0 e, each_filter_if P p xs h.1)
  | false ↦ λ e. each_filter_if P p xs h.1
] refl

filter_empty : {A : Type 0} (p : A → Bool) (xs : List A) → Each (λ x. p x ≡ false) xs → filter p xs ≡ []
filter_empty p [] h = refl
filter_empty p (x ∷ xs) h = rw h.0 (filter_empty p xs h.1)

-- keys or null
abbrev pub option_eq : {K : Type 0} → (K → K → Bool) → Option K → Option K → Bool
option_eq E None None = true
option_eq E None (Some k) = false
option_eq E (Some j) None = false
option_eq E (Some j) (Some k) = E j k

module _ {K : Type 0} (E : K → K → Bool) (dec : (a b : K) → Decides (E a b) (a ≡ b)) where
  option_eq-Decides : (a b : Option K) → Decides (option_eq E a b) (a ≡ b)
  option_eq-Decides None None = (λ h. refl, λ h. refl)
  option_eq-Decides None (Some k) = (λ h. absurd (false≢true h), λ h. cc)
  option_eq-Decides (Some j) None = (λ h. absurd (false≢true h), λ h. cc)
  option_eq-Decides (Some j) (Some k) = (λ h. ap (λ x. Some x) ((dec j k).0 h), λ h. (dec j k).1 cc)

  is_key_eq : (k : K) (o : Option K) → option_eq E o (Some k) ≡ is_key E k o
  is_key_eq k None = refl
  is_key_eq k (Some j) = refl

  is_none_eq : (o : Option K) → option_eq E o None ≡ is_none o
  is_none_eq None = refl
  is_none_eq (Some j) = refl

  none_among : (ks : List K) → list_any (λ s. option_eq E s None) (map (λ k. Some k) ks) ≡ false
  none_among [] = refl
  none_among (k ∷ ks) = none_among ks

  some_among : (ks : List K) (k : K) → list_any (λ s. option_eq E s (Some k)) (map (λ k. Some k) ks) ≡ list_any (λ s. E s k) ks
  some_among ks k = list_any-map (λ s. option_eq E s (Some k)) (λ k. Some k) ks

  somes_apart : (ks : List K) → NoRepeat E ks → NoRepeat (option_eq E) (map (λ k. Some k) ks)
  somes_apart [] n = tt
  somes_apart (k ∷ ks) n = (some_among ks k ∙ n.0, somes_apart ks n.1)

  any_filter : (p : K → Bool) (xs : List K) (k : K) → list_any (λ s. E s k) xs ≡ true → p k ≡ true → list_any (λ s. E s k) (filter p xs) ≡ true
  any_filter p [] k h e = h
  any_filter p (x ∷ xs) k h e = elim (cases_Bool (E x k)) [
    | inl same ↦ subst (λ (v : Bool). list_any (λ s. E s k) (cond v (x ∷ filter p xs) (filter p xs)) ≡ true) (sym (ap p ((dec x k).0 same) ∙ e)) (rw same refl)
    | inr apart ↦ kept (any_filter p xs k (rw apart at h) e)
  ]
    where
      or_true : (b : Bool) → (b || true) ≡ true
      or_true true = refl
      or_true false = refl

      kept : list_any (λ s. E s k) (filter p xs) ≡ true → list_any (λ s. E s k) (cond (p x) (x ∷ filter p xs) (filter p xs)) ≡ true
      kept r = elim (p x) as (λ v. list_any (λ s. E s k) (cond v (x ∷ filter p xs) (filter p xs)) ≡ true) [
        | true ↦ rw r (or_true (E x k))
        | false ↦ r
      ]

  none_is : (o : Option K) → is_none o ≡ true → o ≡ None
  none_is None h = refl
  none_is (Some k) h = absurd (false≢true h)

  module _ (part : Option K → ℕ) (frames : List (List (Option K))) (marked : K → Bool) where
    abbrev pub outer_places : List RowPlace
    outer_places = filter (λ x. is_outer marked (key_at E part frames x)) (all_places E part frames)

    abbrev at : RowPlace → Option K
    at x = key_at E part frames x

    parts_inserted : (p : ℕ) → Each (λ (e : Option K × Position). part e.0 ≡ p) (inserted E part frames p)
    parts_inserted p = Each-flat_map (λ (e : Option K × Position). part e.0 ≡ p) (chunk E part frames p) (range_with_len 0 (length frames)) (Each-all _ _ (λ f.
        let keys = frame_keys E part frames f in
        let ds = dealt E part frames p keys in
        Each-map (λ (e : Option K × Position). part e.0 ≡ p) _ (range_with_len 0 (length ds)) (Each-range _ 0 (length ds) (λ j l m.
        eqb-true _ p (each_read (λ i. eqb (part (get_or keys i None)) p ≡ true) ds j 0 (Each-filtered (λ i. eqb (part (get_or keys i None)) p) (range_with_len 0 (length keys))) (omega arith))))))

    each_present : (P : Option K → Type 0) (es : List (Option K)) → Each P es → Each (λ k. P (Some k)) (present es)
    each_present P [] h = tt
    each_present P (None ∷ es) h = each_present P es h.1
    each_present P (Some k ∷ es) h = (h.0, each_present P es h.1)

    pub parts_keys : (p : ℕ) → Each (λ k. part (Some k) ≡ p) (table_keys E part frames p)
    parts_keys p = each_distinct_from E (λ k. part (Some k) ≡ p) [] (present (map (λ e. e.0) (inserted E part frames p))) tt (each_present (λ o. part o ≡ p) (map (λ e. e.0) (inserted E part frames p)) (Each-map (λ o. part o ≡ p) (λ (e : Option K × Position). e.0) (inserted E part frames p) (parts_inserted p)))

    -- a key of a build row is in its table
    in_table : (x : RowPlace) (k : K) → at x ≡ Some k → ((q : RowPlace → Bool) → q x ≡ true → list_any q (all_places E part frames) ≡ true) → list_any (λ s. E s k) (table_keys E part frames (part (Some k))) ≡ true
    in_table x k e member = elim (cases_Bool (list_any (λ s. E s k) (table_keys E part frames (part (Some k))))) [
      | inl there ↦ there
      | inr absent ↦ absurd (false≢true (
          let none : filter (λ y. is_key E k (at y)) (all_places E part frames) ≡ [] = sym (found E dec part frames (is_key E k) (part (Some k)) (λ o h. ap part (is_key_is E dec part frames k o h))) ∙ ap (map (build_row E part frames (part (Some k)))) (no_positions E dec part frames (part (Some k)) k absent) in
          sym (none_from_nil (λ y. is_key E k (at y)) (all_places E part frames) none) ∙ member (λ y. is_key E k (at y)) (ap (is_key E k) e ∙ same_self E dec k)))
    ]

    module _ (c : RowPlace → Bool) where
      count-append : (xs ys : List RowPlace) → count_by c (xs ++ ys) ≡ count_by c xs + count_by c ys
      count-append xs ys = sum_by-append (λ x. cond (c x) 1 0) xs ys

      count_swap : (x y : RowPlace) → count_by c (x ∷ y ∷ []) ≡ count_by c (y ∷ x ∷ [])
      count_swap x y = omega arith

      -- one partition
      one_part : (p : ℕ) → count_by c (map (build_row E part frames p) (unmarked_positions E part frames marked p)) ≡ count_by c (filter (λ x. eqb (part (at x)) p) outer_places)
      one_part p =
          ap (count_by c) (map-append br (null_positions E part frames p) (flat_map (table_positions E part frames p) ks)
          ∙ ap₂ (λ a b. a ++ b) nulls (map-flat_map br (table_positions E part frames p) ks ∙ flat_map_same _ (λ k. filter (λ x. option_eq E (at x) (Some k)) T) ks unmarked_keys ∙ sym (flat_map-map (λ o. filter (λ x. option_eq E (at x) o) T) (λ k. Some k) ks)))
          ∙ all_bucketed (λ (x : RowPlace). Unit {0}) (count_by c) (λ a b. a + b) (λ xs ys gx gy. count-append xs ys) (option_eq E) option_eq-Decides at (λ x y gx gy e. count_swap x y) T (None ∷ map (λ k. Some k) ks) (Each-all _ T (λ x. tt)) (none_among ks, somes_apart ks (no_repeat_filter E (λ k. not (marked k)) (table_keys E part frames p) (distinct_apart E dec (present (map (λ e. e.0) (inserted E part frames p)))))) classes
        where
          br : Position → RowPlace
          br = build_row E part frames p

          ks : List K
          ks = filter (λ k. not (marked k)) (table_keys E part frames p)

          T : List RowPlace
          T = filter (λ x. eqb (part (at x)) p) outer_places

          same_place : (q : Option K → Bool) → ((o : Option K) → q o ≡ true → part o ≡ p) → ((o : Option K) → q o ≡ true → is_outer marked o ≡ true) → map br (positions_where E part frames q p) ≡ filter (λ x. q (at x)) T
          same_place q hp ho =
              found E dec part frames q p hp
              ∙ sym (filter_implied (λ x. is_outer marked (at x)) (λ x. q (at x)) (λ x e. ho (at x) e) (all_places E part frames))
              ∙ sym (filter_implied (λ x. eqb (part (at x)) p) (λ x. q (at x)) (λ x e. eq-eqb (part (at x)) p (hp (at x) e)) outer_places)

          outer_none : (o : Option K) → is_none o ≡ true → is_outer marked o ≡ true
          outer_none None h = refl
          outer_none (Some k) h = absurd (false≢true h)

          to_option : (q : Option K → Bool) (o' : Option K) → ((o : Option K) → option_eq E o o' ≡ q o) → filter (λ x. q (at x)) T ≡ filter (λ x. option_eq E (at x) o') T
          to_option q o' h = filter_same (λ x. q (at x)) (λ x. option_eq E (at x) o') T (Each-all _ T (λ x. sym (h (at x))))

          nulls : map br (null_positions E part frames p) ≡ filter (λ x. option_eq E (at x) None) T
          nulls = elim (cases_Bool (eqb (part None) p)) [
            | inl here ↦ same_place is_none (λ o e. ap part (none_is o e) ∙ eqb-true (part None) p here) outer_none ∙ to_option is_none None is_none_eq
            | inr other ↦
                ap (λ es. map br (map (λ e. e.1) es)) (filter_empty (λ e. is_none e.0) (inserted E part frames p) (Each-weaker (λ (e : Option K × Position). part e.0 ≡ p) (λ e. is_none e.0 ≡ false) (inserted E part frames p) (λ e h. not_none e.0 other h) (parts_inserted p)))
                ∙ sym (filter_empty (λ x. option_eq E (at x) None) T (Each-weaker (λ x. eqb (part (at x)) p ≡ true) (λ x. option_eq E (at x) None ≡ false) T (λ x h. is_none_eq (at x) ∙ not_none (at x) other (eqb-true (part (at x)) p h)) (Each-filtered (λ x. eqb (part (at x)) p) outer_places)))
          ]
            where
              not_none : (o : Option K) → eqb (part None) p ≡ false → part o ≡ p → is_none o ≡ false
              not_none None h e = absurd (eqb-false (part None) p h e)
              not_none (Some k) h e = refl

          unmarked_keys : Each (λ k. map br (table_positions E part frames p k) ≡ filter (λ x. option_eq E (at x) (Some k)) T) ks
          unmarked_keys = each_filter_if _ (λ k. not (marked k)) (table_keys E part frames p) (Each-weaker (λ k. part (Some k) ≡ p) _ (table_keys E part frames p) (λ k hp hm.
              same_place (is_key E k) (λ o e. ap part (is_key_is E dec part frames k o e) ∙ hp) (λ o e. ap (is_outer marked) (is_key_is E dec part frames k o e) ∙ hm) ∙ to_option (is_key E k) (Some k) (is_key_eq k)) (parts_keys p))

          classes : Each (λ x. list_any (λ s. option_eq E s (at x)) (None ∷ map (λ k. Some k) ks) ≡ true) T
          classes = each_filter_if _ (λ x. eqb (part (at x)) p) outer_places (each_filter_if _ (λ x. is_outer marked (at x)) (all_places E part frames) (each_member _ (all_places E part frames) (λ x member ho hp. go x member (at x) refl ho hp)))
            where
              go : (x : RowPlace) → ((q : RowPlace → Bool) → q x ≡ true → list_any q (all_places E part frames) ≡ true) → (o : Option K) → at x ≡ o → is_outer marked o ≡ true → eqb (part o) p ≡ true → list_any (λ s. option_eq E s o) (None ∷ map (λ k. Some k) ks) ≡ true
              go x member None e ho hp = refl
              go x member (Some k) e ho hp = some_among ks k ∙ any_filter (λ k. not (marked k)) (table_keys E part frames p) k (subst (λ (r : ℕ). list_any (λ s. E s k) (table_keys E part frames r) ≡ true) (eqb-true (part (Some k)) p hp) (in_table x k e member)) ho

      pub counted : (n : ℕ) → ((o : Option K) → part o < n) → count_by c (unmatched E part frames marked n) ≡ count_by c outer_places
      counted n below =
          all_parts (range_with_len 0 n)
          ∙ all_bucketed (λ (x : RowPlace). Unit {0}) (count_by c) (λ a b. a + b) (λ xs ys gx gy. count-append xs ys) eqb eqb-Decides (λ x. part (at x)) (λ x y gx gy e. count_swap x y) outer_places (range_with_len 0 n) (Each-all _ outer_places (λ x. tt)) (range_apart 0 n) (Each-all _ outer_places (λ x. let small = below (at x) in in_range 0 n (part (at x)) (omega arith) (omega arith)))
        where
          all_parts : (ps : List ℕ) → count_by c (flat_map (λ p. map (build_row E part frames p) (unmarked_positions E part frames marked p)) ps) ≡ count_by c (flat_map (λ p. filter (λ x. eqb (part (at x)) p) outer_places) ps)
          all_parts [] = refl
          all_parts (p ∷ ps) = count-append (map (build_row E part frames p) (unmarked_positions E part frames marked p)) _ ∙ ap₂ (λ a b. a + b) (one_part p) (all_parts ps) ∙ sym (count-append (filter (λ x. eqb (part (at x)) p) outer_places) _)
