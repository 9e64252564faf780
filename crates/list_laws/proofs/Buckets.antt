-- A value of lists that joins over `++`, and does not see how items of different classes stand, has the same value on a list and on its classes, one after the other.
use Rattle.std.proofs.Common.{◌≡◌, Bool, true, false, not, ◌&&◌, ◌||◌, cond, List, [], ◌∷◌, ◌++◌, filter, flat_map, refl, sym, ap, ap₂, ◌∙◌, subst, inl, inr}
use Rattle.std.specs.Bool.{Decides}
use Rattle.std.specs.List.{list_any}
use Rattle.std.proofs.lemmas.Bool.{false≢true, cases_Bool}
use Rattle.list_laws.specs.Each.{Each}
use Rattle.list_laws.specs.Distinct.{NoRepeat}
use Rattle.list_laws.proofs.Each.{Each-append, Each-weaker, Each-filter, Each-filtered, Each-all}
use Rattle.list_laws.proofs.Filters.{filter_and, filter_same, filter-Each}
use Rattle.list_laws.proofs.Halves.{and_false, and_true}

module _ {X S : Type 0} (G : X → Type 0) (F : List X → S) (M : S → S → S) (hom : (xs ys : List X) → Each G xs → Each G ys → F (xs ++ ys) ≡ M (F xs) (F ys)) where
  pub join_left : (xs ys zs : List X) → Each G xs → Each G ys → Each G zs → F xs ≡ F ys → F (xs ++ zs) ≡ F (ys ++ zs)
  join_left xs ys zs gx gy gz e = hom xs zs gx gz ∙ ap (λ a. M a (F zs)) e ∙ sym (hom ys zs gy gz)

  pub join_right : (xs ys zs : List X) → Each G xs → Each G ys → Each G zs → F ys ≡ F zs → F (xs ++ ys) ≡ F (xs ++ zs)
  join_right xs ys zs gx gy gz e = hom xs ys gx gy ∙ ap (λ a. M (F xs) a) e ∙ sym (hom xs zs gx gz)

  module _ {C : Type 0} (E : C → C → Bool) (dec : (a b : C) → Decides (E a b) (a ≡ b)) (class : X → C) (swap : (x y : X) → G x → G y → E (class x) (class y) ≡ false → F (x ∷ y ∷ []) ≡ F (y ∷ x ∷ [])) where
    differs : (a b : C) → E b a ≡ false → E a b ≡ false
    differs a b h = elim (E a b) as (λ v. E a b ≡ v → v ≡ false) [
      | true ↦ λ e. absurd (false≢true (sym h ∙ (dec b a).1 (sym ((dec a b).0 e))))
      | false ↦ λ e. refl
    ] refl

    -- an item goes in front of those of other classes
    to_front : (xs : List X) (x : X) (ys : List X) → Each G xs → G x → Each G ys → Each (λ y. E (class y) (class x) ≡ false) xs → F (xs ++ x ∷ ys) ≡ F (x ∷ (xs ++ ys))
    to_front [] x ys gx g gy h = refl
    to_front (y ∷ xs) x ys gx g gy h =
        let rest = Each-append G xs ys gx.1 gy in
        join_right (y ∷ []) (xs ++ x ∷ ys) (x ∷ (xs ++ ys)) (gx.0, tt) (Each-append G xs (x ∷ ys) gx.1 (g, gy)) (g, rest) (to_front xs x ys gx.1 g gy h.1)
        ∙ join_left (y ∷ x ∷ []) (x ∷ y ∷ []) (xs ++ ys) (gx.0, (g, tt)) (g, (gx.0, tt)) rest (swap y x gx.0 g h.0)

    -- the items of a class go in front of all others
    pub split : (c : C) (xs : List X) → Each G xs → F (filter (λ x. E (class x) c) xs ++ filter (λ x. not (E (class x) c)) xs) ≡ F xs
    split c [] g = refl
    split c (x ∷ xs) g =
        let inside = filter (λ x. E (class x) c) xs in
        let outside = filter (λ x. not (E (class x) c)) xs in
        let gi = Each-filter G (λ x. E (class x) c) xs g.1 in
        let go = Each-filter G (λ x. not (E (class x) c)) xs g.1 in
        let on = join_right (x ∷ []) (inside ++ outside) xs (g.0, tt) (Each-append G inside outside gi go) g.1 (split c xs g.1) in
        elim (E (class x) c) as (λ v. E (class x) c ≡ v → F (cond v (x ∷ inside) inside ++ cond (not v) (x ∷ outside) outside) ≡ F (x ∷ xs)) [
          | true ↦ λ e. on
          | false ↦ λ e. to_front inside x outside gi g.0 go (Each-weaker (λ (y : X). E (class y) c ≡ true) (λ (y : X). E (class y) (class x) ≡ false) inside (λ y h. subst (λ (d : C). E d (class x) ≡ false) (sym ((dec (class y) c).0 h)) (differs c (class x) e)) (Each-filtered (λ x. E (class x) c) xs)) ∙ on
        ] refl

    -- the classes, one after the other
    abbrev pub buckets : List X → List C → List X
    buckets xs cs = flat_map (λ c. filter (λ x. E (class x) c) xs) cs

    pub each_buckets : (xs : List X) (cs : List C) → Each G xs → Each G (buckets xs cs)
    each_buckets xs [] g = tt
    each_buckets xs (c ∷ cs) g = Each-append G (filter (λ x. E (class x) c) xs) (buckets xs cs) (Each-filter G (λ x. E (class x) c) xs g) (each_buckets xs cs g)

    abbrev pub among : List C → X → Bool
    among cs x = list_any (λ s. E s (class x)) cs

    pub bucketed : (xs : List X) (cs : List C) → Each G xs → NoRepeat E cs → F (buckets xs cs) ≡ F (filter (among cs) xs)
    bucketed xs [] g n = ap F (sym (none xs))
      where
        none : (xs : List X) → filter (among []) xs ≡ []
        none [] = refl
        none (x ∷ xs) = none xs
    bucketed xs (c ∷ cs) g n =
        let here = filter (λ x. E (class x) c) xs in
        let all = filter (among (c ∷ cs)) xs in
        join_right here (buckets xs cs) (filter (among cs) xs) (Each-filter G (λ x. E (class x) c) xs g) (each_buckets xs cs g) (Each-filter G (among cs) xs g) (bucketed xs cs g n.1)
        ∙ ap₂ (λ a b. F (a ++ b)) (sym (filter_and (λ x. E (class x) c) (among (c ∷ cs)) xs ∙ filter_same _ _ xs (Each-all _ xs first))) (sym (filter_and (λ x. not (E (class x) c)) (among (c ∷ cs)) xs ∙ filter_same _ _ xs (Each-all _ xs others)))
        ∙ split c all (Each-filter G (among (c ∷ cs)) xs g)
      where
        first : (x : X) → ((E c (class x) || list_any (λ s. E s (class x)) cs) && E (class x) c) ≡ E (class x) c
        first x = elim (cases_Bool (E c (class x))) [
          | inl same ↦ rw same refl
          | inr apart ↦ rw (apart, differs (class x) c apart) (and_false (list_any (λ s. E s (class x)) cs))
        ]

        others : (x : X) → ((E c (class x) || list_any (λ s. E s (class x)) cs) && not (E (class x) c)) ≡ list_any (λ s. E s (class x)) cs
        others x = elim (cases_Bool (E c (class x))) [
          | inl same ↦
              let here : c ≡ class x = (dec c (class x)).0 same in
              rw (same, (dec (class x) c).1 (sym here)) (sym (subst (λ (d : C). list_any (λ s. E s d) cs ≡ false) here n.0))
          | inr apart ↦ rw (apart, differs (class x) c apart) (and_true (list_any (λ s. E s (class x)) cs))
        ]

    -- items whose classes are all listed
    pub all_bucketed : (xs : List X) (cs : List C) → Each G xs → NoRepeat E cs → Each (λ x. among cs x ≡ true) xs → F (buckets xs cs) ≡ F xs
    all_bucketed xs cs g n h = bucketed xs cs g n ∙ ap F (filter-Each (among cs) xs h)

    -- two lists whose classes are the same lists
    pub same_classes : (xs ys : List X) (cs : List C) → Each G xs → Each G ys → NoRepeat E cs → Each (λ x. among cs x ≡ true) xs → Each (λ x. among cs x ≡ true) ys → Each (λ c. filter (λ x. E (class x) c) xs ≡ filter (λ x. E (class x) c) ys) cs → F xs ≡ F ys
    same_classes xs ys cs gx gy n hx hy e = sym (all_bucketed xs cs gx n hx) ∙ ap F (same cs e) ∙ all_bucketed ys cs gy n hy
      where
        same : (ds : List C) → Each (λ c. filter (λ x. E (class x) c) xs ≡ filter (λ x. E (class x) c) ys) ds → buckets xs ds ≡ buckets ys ds
        same [] e = refl
        same (d ∷ ds) e = ap₂ (λ a b. a ++ b) e.0 (same ds e.1)
