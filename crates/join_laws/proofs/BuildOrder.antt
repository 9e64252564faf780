-- Sorted lists with the same counts are the same, so the sorted unmatched places are the outer build rows in build order.
use Rattle.std.proofs.Common.{◌≡◌, ℕ, zero, suc, ◌+◌, ◌*◌, ◌<◌, ◌≤◌, eqb, ltb, Bool, false, not, cond, List, [], ◌∷◌, map, flat_map, length, get_or, refl, ap, ap₂, ◌∙◌, inl, inr, arith, Option, count_by, IsPermutation}
use Rattle.std.specs.Bool.{Decides}
use Rattle.std.specs.List.{range_with_len}
use Rattle.std.proofs.lemmas.Bool.{cases_Bool, ne_eqb, eq-eqb, cases_order, lt-ltb, ltb-true, not-false}
use Rattle.std.proofs.lemmas.List.Sums.{sum_by-cons}
use Rattle.std.proofs.lemmas.List.Sorted.{sum_by-IsPermutation}
use Rattle.join_laws.proofs.Unmatched.{counted, outer_places}
use Rattle.join_laws.specs.Deals.{all_places, frame_keys, key_at, unmatched}
use Rattle.join_laws.specs.Outer.{is_outer}
use Rattle.col_core.specs.declared.row_place.RowPlace.{RowPlace}
use Rattle.key_parts.specs.Positions.{Position}
use Rattle.list_laws.proofs.Ascending.{Rises-append, Rises-filter}
use Rattle.list_laws.proofs.Each.{Each-filter, Each-flat_map, Each-all, Each-weaker, Each-map}
use Rattle.list_laws.proofs.Ranges.{Each-range}
use Rattle.list_laws.specs.Ascending.{Rises}
use Rattle.list_laws.specs.Each.{Each}

weight : (a b n : ℕ) → a ≡ b → cond {A = ℕ} (eqb a n) 1 0 ≡ cond {A = ℕ} (eqb b n) 1 0
weight a b n e = ap (λ k. cond {A = ℕ} (eqb k n) 1 0) e

module _ {X : Type 0} (P : X → Type 0) (num : X → ℕ) (inj : (a b : X) → P a → P b → num a ≡ num b → a ≡ b) where
  count-cons : (n : ℕ) (x : X) (xs : List X) → count_by (λ y. eqb (num y) n) (x ∷ xs) ≡ cond (eqb (num x) n) 1 0 + count_by (λ y. eqb (num y) n) xs
  count-cons n x xs = sum_by-cons (λ y. cond (eqb (num y) n) 1 0) x xs

  count_head : (x : X) (xs : List X) → count_by (λ y. eqb (num y) (num x)) (x ∷ xs) ≡ 1 + count_by (λ y. eqb (num y) (num x)) xs
  count_head x xs = count-cons (num x) x xs ∙ ap (λ b. cond b 1 0 + count_by (λ y. eqb (num y) (num x)) xs) (eq-eqb (num x) (num x) refl)

  count_above : (n : ℕ) (xs : List X) → Each (λ x. n < num x) xs → count_by (λ y. eqb (num y) n) xs ≡ 0
  count_above n [] h = refl
  count_above n (x ∷ xs) h = count-cons n x xs ∙ ap₂ (λ b m. cond b 1 0 + m) (ne_eqb (num x) n (λ e. let l = h.0 in omega arith)) (count_above n xs h.1)

  above_all : (n : ℕ) (y : X) (ys : List X) → n < num y → Each (λ z. num y ≤ num z) ys → Each (λ z. n < num z) (y ∷ ys)
  above_all n y ys l h = (l, Each-weaker (λ z. num y ≤ num z) (λ z. n < num z) ys (λ z g. omega arith) h)

  pub same_sorted : (xs ys : List X) → Rises num xs → Rises num ys → Each P xs → Each P ys → ((n : ℕ) → count_by (λ y. eqb (num y) n) xs ≡ count_by (λ y. eqb (num y) n) ys) → xs ≡ ys
  same_sorted [] [] rx ry px py c = refl
  same_sorted [] (y ∷ ys) rx ry px py c = absurd (let a = c (num y) in let b = count_head y ys in omega arith)
  same_sorted (x ∷ xs) [] rx ry px py c = absurd (let a = c (num x) in let b = count_head x xs in omega arith)
  same_sorted (x ∷ xs) (y ∷ ys) rx ry px py c = elim (cases_order (num x) (num y)) [
    | inl equal ↦
        let here : x ≡ y = inj x y px.0 py.0 equal in
        ap₂ (λ h t. h ∷ t) here (same_sorted xs ys rx.1 ry.1 px.1 py.1 (λ n.
        let a = c n in
        let b = count-cons n x xs in
        let d = count-cons n y ys in
        omega (arith, weight (num x) (num y) n equal)))
    | inr (inl less) ↦ absurd (let a = c (num x) in let b = count_head x xs in let d = count_above (num x) (y ∷ ys) (above_all (num x) y ys less ry.0) in omega arith)
    | inr (inr more) ↦ absurd (let a = c (num y) in let b = count_head y ys in let d = count_above (num y) (x ∷ xs) (above_all (num y) x xs more rx.0) in omega arith)
  ]

abbrev pub place_number : RowPlace → ℕ
place_number x = x.frame * 4294967296 + x.row

abbrev pub IsShort : RowPlace → Type 0
IsShort x = x.row < 4294967296

place_injective : (a b : RowPlace) → IsShort a → IsShort b → place_number a ≡ place_number b → a ≡ b
place_injective a b sa sb e =
    let f : a.frame ≡ b.frame = omega arith in
    let r : a.row ≡ b.row = omega arith in
    ap₂ (λ f r. record { frame = f; row = r }) f r

-- what no element fails, by counting
each_from_count : {X : Type 0} (P : X → Type 0) (p : X → Bool) → ((x : X) → p x ≡ false → P x) → (xs : List X) → count_by p xs ≡ 0 → Each P xs
each_from_count P p h [] c = tt
each_from_count P p h (x ∷ xs) c = elim (cases_Bool (p x)) [
  | inl bad ↦ absurd (let d = sum_by-cons (λ y. cond (p y) 1 0) x xs ∙ ap (λ b. cond b 1 0 + count_by p xs) bad in omega arith)
  | inr good ↦ let d = sum_by-cons (λ y. cond (p y) 1 0) x xs ∙ ap (λ b. cond b 1 0 + count_by p xs) good in (h x good, each_from_count P p h xs (omega arith))
]

count_from_each : {X : Type 0} (p : X → Bool) (xs : List X) → Each (λ x. p x ≡ false) xs → count_by p xs ≡ 0
count_from_each p [] h = refl
count_from_each p (x ∷ xs) h = sum_by-cons (λ y. cond (p y) 1 0) x xs ∙ ap₂ (λ b m. cond b 1 0 + m) h.0 (count_from_each p xs h.1)

module _ {K : Type 0} (E : K → K → Bool) (dec : (a b : K) → Decides (E a b) (a ≡ b)) (part : Option K → ℕ) (frames : List (List (Option K))) (short : (f : ℕ) → length (get_or frames f []) ≤ 4294967296) where
  abbrev of_frame : ℕ → List RowPlace
  of_frame f = map (λ i. record { frame = f; row = i }) (range_with_len 0 (length (frame_keys E part frames f)))

  rises_rows : (f a n : ℕ) → Rises place_number (map (λ i. record { frame = f; row = i }) (range_with_len a n))
  rises_rows f a zero = tt
  rises_rows f a (suc n) = (Each-map (λ (x : RowPlace). f * 4294967296 + a ≤ place_number x) (λ i. record { frame = f; row = i }) (range_with_len (a + 1) n) (Each-range _ (a + 1) n (λ k l m. omega arith)), rises_rows f (a + 1) n)

  short_frame : (f : ℕ) → Each IsShort (of_frame f)
  short_frame f = Each-map IsShort (λ i. record { frame = f; row = i }) (range_with_len 0 (length (frame_keys E part frames f))) (Each-range _ 0 (length (frame_keys E part frames f)) (λ k l m. let s = short f in omega arith))

  pub short_all : Each IsShort (all_places E part frames)
  short_all = Each-flat_map IsShort of_frame (range_with_len 0 (length frames)) (Each-all _ _ short_frame)

  from_frame : (a n : ℕ) → Each (λ x. a * 4294967296 ≤ place_number x) (flat_map of_frame (range_with_len a n))
  from_frame a n = Each-flat_map (λ x. a * 4294967296 ≤ place_number x) of_frame (range_with_len a n) (Each-range _ a n (λ k l m. Each-map (λ x. a * 4294967296 ≤ place_number x) (λ i. record { frame = k; row = i }) _ (Each-all _ _ (λ i. omega arith))))

  rises_from : (a n : ℕ) → Rises place_number (flat_map of_frame (range_with_len a n))
  rises_from a zero = tt
  rises_from a (suc n) = Rises-append place_number ((a + 1) * 4294967296) (of_frame a) (flat_map of_frame (range_with_len (a + 1) n)) (rises_rows a 0 (length (frame_keys E part frames a))) (rises_from (a + 1) n)
      (Each-map (λ x. place_number x ≤ (a + 1) * 4294967296) (λ i. record { frame = a; row = i }) _ (Each-range _ 0 (length (frame_keys E part frames a)) (λ k l m. let s = short a in omega arith)))
      (from_frame (a + 1) n)

  -- the unmatched places of all tables, in build order
  pub unmatched_sorted : (marked : K → Bool) (n : ℕ) → ((o : Option K) → part o < n) → (sorted : List RowPlace) → IsPermutation (unmatched E part frames marked n) sorted → Rises place_number sorted → sorted ≡ outer_places E dec part frames marked
  unmatched_sorted marked n below sorted perm up =
      same_sorted IsShort place_number place_injective sorted target up (Rises-filter place_number (λ x. is_outer marked (key_at E part frames x)) (all_places E part frames) (rises_from 0 (length frames)))
      (each_from_count IsShort (λ x. not (ltb x.row 4294967296)) (λ x h. ltb-true x.row 4294967296 (not-false (ltb x.row 4294967296) h)) sorted (counts (λ x. not (ltb x.row 4294967296)) ∙ count_from_each (λ x. not (ltb x.row 4294967296)) target (Each-weaker IsShort (λ x. not (ltb x.row 4294967296) ≡ false) target (λ x h. ap not (lt-ltb x.row 4294967296 h)) short_target)))
      short_target
      (λ m. counts (λ x. eqb (place_number x) m))
    where
      target : List RowPlace
      target = outer_places E dec part frames marked

      short_target : Each IsShort target
      short_target = Each-filter IsShort (λ x. is_outer marked (key_at E part frames x)) (all_places E part frames) short_all

      counts : (c : RowPlace → Bool) → count_by c sorted ≡ count_by c target
      counts c = sum_by-IsPermutation (λ x. cond (c x) 1 0) (unmatched E part frames marked n) sorted perm ∙ counted E dec part frames marked c n below
