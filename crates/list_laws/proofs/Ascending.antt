-- Lists whose numbers rise strictly are decided by their members.
use Rattle.std.proofs.Common.{◌≡◌, ℕ, suc, ◌<◌, ◌≤◌, min, Bool, true, false, ◌||◌, cond, List, [], ◌∷◌, ◌++◌, map, filter, fold, length, get_or, refl, sym, ap, ap₂, ◌∙◌, subst, inl, inr, lt_irrefl, arith}
use Rattle.std.specs.Bool.{Decides}
use Rattle.std.specs.List.{list_any}
use Rattle.std.specs.List.Sorted.{IsNonDecreasingBy}
use Rattle.std.proofs.lemmas.Bool.{false≢true, cases_Bool, or_parts}
use Rattle.list_laws.specs.Each.{Each}
use Rattle.list_laws.specs.Distinct.{NoRepeat, with_new, distinct}
use Rattle.list_laws.specs.Ascending.{Ascends, Rises, least}
use Rattle.list_laws.proofs.Each.{Each-append, Each-weaker, Each-filter}
use Rattle.list_laws.proofs.Keys.{same_self, flips_false, each_at, list_any-append}

pub Ascends-push : {X : Type 0} (f : X → ℕ) (xs : List X) (y : X) → Ascends f xs → Each (λ x. f x < f y) xs → Ascends f (xs ++ y ∷ [])
Ascends-push f [] y a b = (tt, tt)
Ascends-push {X} f (x ∷ xs) y a b = (Each-append (λ (z : X). f x < f z) xs (y ∷ []) a.0 (b.0, tt), Ascends-push f xs y a.1 b.1)

pub Ascends-append : {X : Type 0} (f : X → ℕ) (b : ℕ) (xs ys : List X) → Ascends f xs → Ascends f ys → Each (λ x. f x < b) xs → Each (λ y. b ≤ f y) ys → Ascends f (xs ++ ys)
Ascends-append f b [] ys a c lo hi = c
Ascends-append {X} f b (x ∷ xs) ys a c lo hi = (Each-append (λ (y : X). f x < f y) xs ys a.0 (Each-weaker (λ (y : X). b ≤ f y) (λ (y : X). f x < f y) ys (λ y h. let l = lo.0 in omega arith) hi), Ascends-append f b xs ys a.1 c lo.1 hi)

pub Rises-append : {X : Type 0} (f : X → ℕ) (b : ℕ) (xs ys : List X) → Rises f xs → Rises f ys → Each (λ x. f x ≤ b) xs → Each (λ y. b ≤ f y) ys → Rises f (xs ++ ys)
Rises-append f b [] ys a c lo hi = c
Rises-append {X} f b (x ∷ xs) ys a c lo hi = (Each-append (λ (y : X). f x ≤ f y) xs ys a.0 (Each-weaker (λ (y : X). b ≤ f y) (λ (y : X). f x ≤ f y) ys (λ y h. let l = lo.0 in omega arith) hi), Rises-append f b xs ys a.1 c lo.1 hi)

pub Rises-filter : {X : Type 0} (f : X → ℕ) (p : X → Bool) (xs : List X) → Rises f xs → Rises f (filter p xs)
Rises-filter f p [] r = tt
Rises-filter f p (x ∷ xs) r = elim (p x) as (λ v. Rises f (cond v (x ∷ filter p xs) (filter p xs))) [
  | true ↦ (Each-filter (λ y. f x ≤ f y) p xs r.0, Rises-filter f p xs r.1)
  | false ↦ Rises-filter f p xs r.1
]

pub Rises-agree : {X : Type 0} (f g : X → ℕ) (xs : List X) → ((x : X) → f x ≡ g x) → Rises f xs → Rises g xs
Rises-agree f g [] e r = tt
Rises-agree {X} f g (x ∷ xs) e r = (Each-weaker (λ (y : X). f x ≤ f y) (λ (y : X). g x ≤ g y) xs (λ y h. let ex = e x in let ey = e y in omega arith) r.0, Rises-agree f g xs e r.1)

pub least_at_least : {X : Type 0} (top : ℕ) (f : X → ℕ) (n : ℕ) (xs : List X) → n ≤ top → Each (λ x. n ≤ f x) xs → n ≤ least top f xs
least_at_least top f n [] t h = t
least_at_least top f n (x ∷ xs) t h =
    let rest = least_at_least top f n xs t h.1 in
    let here = h.0 in
    omega arith

pub least_top : {X : Type 0} (top : ℕ) (f : X → ℕ) (xs : List X) → least top f xs ≤ top
least_top top f [] = omega arith
least_top top f (x ∷ xs) = let rest = least_top top f xs in omega arith

pub least-append : {X : Type 0} (top : ℕ) (f : X → ℕ) (xs ys : List X) → least top f (xs ++ ys) ≡ min (least top f xs) (least top f ys)
least-append top f [] ys = let small = least_top top f ys in omega arith
least-append top f (x ∷ xs) ys = let rest = least-append top f xs ys in omega arith

module _ {K : Type 0} (E : K → K → Bool) (dec : (a b : K) → Decides (E a b) (a ≡ b)) where
  pub not_among : (f : K → ℕ) (k : K) (xs : List K) → Each (λ y. f k < f y) xs → list_any (λ s. E s k) xs ≡ false
  not_among f k xs h = elim (cases_Bool (list_any (λ s. E s k) xs)) [
    | inl there ↦ absurd (lt_irrefl (f k) (each_at E dec (λ y. f k < f y) xs k h there))
    | inr none ↦ none
  ]

  any_head : (y : K) (ys : List K) → list_any (λ s. E s y) (y ∷ ys) ≡ true
  any_head y ys = rw (same_self E dec y) refl

  -- two lists that rise strictly and have the same members
  pub ascending_unique : (f : K → ℕ) (xs ys : List K) → Ascends f xs → Ascends f ys → ((k : K) → list_any (λ s. E s k) xs ≡ list_any (λ s. E s k) ys) → xs ≡ ys
  ascending_unique f [] [] a b same = refl
  ascending_unique f [] (y ∷ ys) a b same = absurd (false≢true (same y ∙ any_head y ys))
  ascending_unique f (x ∷ xs) [] a b same = absurd (false≢true (sym (same x) ∙ any_head x xs))
  ascending_unique f (x ∷ xs) (y ∷ ys) a b same = elim (cases_Bool (E x y)) [
    | inl equal ↦
        let here : x ≡ y = (dec x y).0 equal in
        ap₂ (λ h t. h ∷ t) here (ascending_unique f xs ys a.1 b.1 (tails here))
    | inr apart ↦
        let in_xs : list_any (λ s. E s y) xs ≡ true = rw apart at (same y ∙ any_head y ys) in
        let in_ys : list_any (λ s. E s x) ys ≡ true = rw (flips_false E dec x y apart) at (sym (same x) ∙ any_head x xs) in
        let up : f x < f y = each_at E dec (λ z. f x < f z) xs y a.0 in_xs in
        let down : f y < f x = each_at E dec (λ z. f y < f z) ys x b.0 in_ys in
        absurd (omega arith)
  ]
    where
      tails : x ≡ y → (k : K) → list_any (λ s. E s k) xs ≡ list_any (λ s. E s k) ys
      tails here k = elim (cases_Bool (E x k)) [
        | inl equal ↦
            let at : x ≡ k = (dec x k).0 equal in
            subst (λ (z : K). list_any (λ s. E s z) xs ≡ false) at (not_among f x xs a.0)
            ∙ sym (subst (λ (z : K). list_any (λ s. E s z) ys ≡ false) (sym here ∙ at) (not_among f y ys b.0))
        | inr apart ↦ rw (apart, subst (λ (z : K). E z k ≡ false) here apart) at (same k)
      ]

  -- a list that does not fall, whose keys differ and have different numbers
  pub ascends_from : (f : K → ℕ) (xs : List K) → Rises f xs → NoRepeat E xs → ((a b : K) → list_any (λ s. E s a) xs ≡ true → list_any (λ s. E s b) xs ≡ true → f a ≡ f b → a ≡ b) → Ascends f xs
  ascends_from f [] r n inj = tt
  ascends_from f (x ∷ xs) r n inj = (above xs (λ k h. rw h (or_true (E x k))) r.0 n.0, ascends_from f xs r.1 n.1 (λ a b ha hb. inj a b (rw ha (or_true (E x a))) (rw hb (or_true (E x b)))))
    where
      or_true : (b : Bool) → (b || true) ≡ true
      or_true true = refl
      or_true false = refl

      above : (ys : List K) → ((k : K) → list_any (λ s. E s k) ys ≡ true → (E x k || list_any (λ s. E s k) xs) ≡ true) → Each (λ y. f x ≤ f y) ys → list_any (λ s. E s x) ys ≡ false → Each (λ y. f x < f y) ys
      above [] sub h m = tt
      above (y ∷ ys) sub h m =
          let both = or_parts (E y x) (list_any (λ s. E s x) ys) m in
          let le : f x ≤ f y = h.0 in
          let ne : f x ≡ f y → ⊥ = λ e. false≢true (sym both.0 ∙ (dec y x).1 (sym (inj x y (rw (same_self E dec x) refl) (sub y (rw (same_self E dec y) refl)) e))) in
          (omega arith, above ys (λ k g. sub k (rw g (or_true (E y k)))) h.1 both.1)

  module _ {X : Type 0} (key : X → K) (num : X → ℕ) where
    -- the distinct keys rise by the least number of their rows, where the rows do
    pub ascends_distinct_from : (top : ℕ) (f : K → ℕ) (seen : List K) (xs : List X) → Ascends num xs → Each (λ x. num x ≤ top) xs → Ascends f seen → ((k : K) → list_any (λ s. E s k) seen ≡ false → f k ≡ least top num (filter (λ x. E (key x) k) xs)) → Each (λ x. Each (λ k. f k < num x) seen) xs → Ascends f (fold (with_new E) seen (map key xs))
    ascends_distinct_from top f seen [] up low a first below = a
    ascends_distinct_from top f seen (x ∷ xs) up low a first below = elim (cases_Bool (list_any (λ s. E s (key x)) seen)) [
      | inl old ↦ subst (λ (s : List K). Ascends f (fold (with_new E) s (map key xs))) (sym (kept old)) (ascends_distinct_from top f seen xs up.1 low.1 a (λ k h. first k h ∙ ap (least top num) (skip k (apart old k h))) below.1)
      | inr fresh ↦
          let least_here : f (key x) ≡ num x = first (key x) fresh ∙ here in
          subst (λ (s : List K). Ascends f (fold (with_new E) s (map key xs))) (sym (added fresh)) (ascends_distinct_from top f (seen ++ key x ∷ []) xs up.1 low.1
          (Ascends-push f seen (key x) a (Each-weaker (λ k. f k < num x) (λ k. f k < f (key x)) seen (λ k h. rw least_here h) below.0))
          (λ k h. let both = or_parts (list_any (λ s. E s k) seen) (E (key x) k || false) (sym (list_any-append (λ s. E s k) seen (key x ∷ [])) ∙ h) in first k both.0 ∙ ap (least top num) (skip k (or_parts (E (key x) k) false both.1).0))
          (pushed least_here xs up.0 below.1))
    ]
      where
        kept : list_any (λ s. E s (key x)) seen ≡ true → with_new E seen (key x) ≡ seen
        kept h = rw h refl

        added : list_any (λ s. E s (key x)) seen ≡ false → with_new E seen (key x) ≡ seen ++ key x ∷ []
        added h = rw h refl

        skip : (k : K) → E (key x) k ≡ false → filter (λ x. E (key x) k) (x ∷ xs) ≡ filter (λ x. E (key x) k) xs
        skip k h = rw h refl

        apart : list_any (λ s. E s (key x)) seen ≡ true → (k : K) → list_any (λ s. E s k) seen ≡ false → E (key x) k ≡ false
        apart old k h = elim (cases_Bool (E (key x) k)) [
          | inl same ↦ absurd (false≢true (sym h ∙ subst (λ (z : K). list_any (λ s. E s z) seen ≡ true) ((dec (key x) k).0 same) old))
          | inr none ↦ none
        ]

        here : least top num (filter (λ y. E (key y) (key x)) (x ∷ xs)) ≡ num x
        here = rw (same_self E dec (key x)) (
            let rest = least_at_least top num (num x) (filter (λ y. E (key y) (key x)) xs) low.0 (Each-filter (λ y. num x ≤ num y) (λ y. E (key y) (key x)) xs (Each-weaker (λ y. num x < num y) (λ y. num x ≤ num y) xs (λ y h. omega arith) up.0)) in
            omega arith)

        pushed : f (key x) ≡ num x → (ys : List X) → Each (λ y. num x < num y) ys → Each (λ y. Each (λ k. f k < num y) seen) ys → Each (λ y. Each (λ k. f k < num y) (seen ++ key x ∷ [])) ys
        pushed e [] u b = tt
        pushed e (y ∷ ys) u b = (Each-append (λ k. f k < num y) seen (key x ∷ []) b.0 (rw e u.0, tt), pushed e ys u.1 b.1)

    pub ascends_distinct : (top : ℕ) (xs : List X) → Ascends num xs → Each (λ x. num x ≤ top) xs → Ascends (λ k. least top num (filter (λ x. E (key x) k) xs)) (distinct E (map key xs))
    ascends_distinct top xs up low = ascends_distinct_from top (λ k. least top num (filter (λ x. E (key x) k) xs)) [] xs up low tt (λ k h. refl) (none xs)
      where
        none : (ys : List X) → Each (λ x. Unit {0}) ys
        none [] = tt
        none (y ∷ ys) = (tt, none ys)

-- from the standard library's word for lists that do not fall
pub rises_from_non_decreasing : {X : Type 0} (f : X → ℕ) (xs : List X) → IsNonDecreasingBy f xs → Rises f xs
rises_from_non_decreasing f [] h = tt
rises_from_non_decreasing {X} f (x ∷ xs) h = (over xs (λ k d l. h 0 (suc k) d (omega arith) (omega arith)), rises_from_non_decreasing f xs (λ i j d l m. h (suc i) (suc j) d (omega arith) (omega arith)))
  where
    over : (ys : List X) → ((k : ℕ) (d : X) → k < length ys → f x ≤ f (get_or ys k d)) → Each (λ y. f x ≤ f y) ys
    over [] g = tt
    over (y ∷ ys) g = (g 0 y (omega arith), over ys (λ k d l. g (suc k) d (omega arith)))
