-- Local states hold what their entries give, and their merge what all entries give.
use Rattle.std.proofs.Common.{◌≡◌, suc, ◌+◌, Bool, false, ◌||◌, List, [], ◌∷◌, ◌++◌, map, filter, flat_map, fold, refl, sym, ap, ap₂, ◌∙◌, subst, inl, inr, append-nil, append_assoc, arith}
use Rattle.std.specs.Bool.{Decides}
use Rattle.std.specs.List.{list_any, position_or_len}
use Rattle.std.proofs.lemmas.Bool.{cases_Bool}
use Rattle.std.proofs.lemmas.List.{map-append}
use Rattle.std.proofs.lemmas.List.Elements.{filter-append}
use Rattle.std.proofs.lemmas.List.Sums.{fold-append}
use Rattle.join_laws.specs.Locals.{HoldAll, Holds, Local, Takes, at_key, merge_one, merged, of_key}
use Rattle.list_laws.proofs.Distinct.{any_distinct}
use Rattle.list_laws.proofs.Each.{Each-append, Each-filter}
use Rattle.list_laws.proofs.Filters.{filter-absent}
use Rattle.list_laws.proofs.Keys.{list_any-append, list_any-map}
use Rattle.list_laws.proofs.Maps.{map_agree}
use Rattle.list_laws.specs.Distinct.{distinct, with_new}
use Rattle.list_laws.specs.Each.{Each}

module _ {K : Type 0} (E : K → K → Bool) (dec : (a b : K) → Decides (E a b) (a ≡ b)) where
  -- a column that is a map of the keys, at a key
  pub at_key_map : {V : Type 0} (f : K → V) (d : V) (keys : List K) (k : K) → (list_any (λ s. E s k) keys ≡ false → f k ≡ d) → at_key E keys (map f keys) k d ≡ f k
  at_key_map f d [] k h = sym (h refl)
  at_key_map {V} f d (x ∷ xs) k h = elim (cases_Bool (E x k)) [
    | inl same ↦ rw same (ap f ((dec x k).0 same))
    | inr apart ↦ rw (apart, one) (at_key_map f d xs k (λ n. h (rw apart n)))
  ]
    where
      one : 1 + position_or_len (λ s. E s k) xs ≡ suc (position_or_len (λ s. E s k) xs)
      one = omega arith

  module _ {X V : Type 0} (key : X → K) (G : X → Type 0) (F : List X → V) (M : V → V → V) (hom : (xs ys : List X) → Each G xs → Each G ys → F (xs ++ ys) ≡ M (F xs) (F ys)) where
    of : List X → K → List X
    of xs k = filter (λ x. E (key x) k) xs

    pub no_entries : (xs : List X) (k : K) → list_any (λ s. E s k) (distinct E (map key xs)) ≡ false → F (of_key E key xs k) ≡ F []
    no_entries xs k h = ap F (filter-absent (λ x. E (key x) k) xs (sym (list_any-map (λ s. E s k) key xs) ∙ sym (any_distinct E dec (map key xs) k) ∙ h))

    -- the value of a key in a local state
    pub holds_at : (xs : List X) (l : Local K V) (k : K) → Holds E key F xs l → at_key E l.keys l.values k (F []) ≡ F (of_key E key xs k)
    holds_at xs l k h = ap (λ vs. at_key E l.keys vs k (F [])) h.values_are ∙ at_key_map (λ k. F (of_key E key xs k)) (F []) l.keys k (λ n. no_entries xs k (subst (λ (ks : List K). list_any (λ s. E s k) ks ≡ false) h.keys_are n))

    hom_of : (xs ys : List X) (k : K) → Each G xs → Each G ys → F (of_key E key (xs ++ ys) k) ≡ M (F (of_key E key xs k)) (F (of_key E key ys k))
    hom_of xs ys k gx gy = ap F (filter-append (λ x. E (key x) k) xs ys) ∙ hom (of_key E key xs k) (of_key E key ys k) (Each-filter G (λ x. E (key x) k) xs gx) (Each-filter G (λ x. E (key x) k) ys gy)

    pub holds_none : Holds E key F [] (record { keys = []; values = [] })
    holds_none = record { keys_are = refl; values_are = refl }

    -- a local state that took more entries holds them too
    pub holds_more : (xs ys : List X) (l m : Local K V) → Each G xs → Each G ys → Holds E key F xs l → Takes E key F M ys l m → Holds E key F (xs ++ ys) m
    holds_more xs ys l m gx gy h t = record {
      keys_are = t.keys_are ∙ ap (λ ks. fold (with_new E) ks (map key ys)) h.keys_are ∙ sym (fold-append (with_new E) [] (map key xs) (map key ys)) ∙ ap (distinct E) (sym (map-append key xs ys));
      values_are = t.values_are ∙ map_agree _ (λ k. F (of_key E key (xs ++ ys) k)) (λ k. ap (λ v. M v (F (of_key E key ys k))) (holds_at xs l k h) ∙ sym (hom_of xs ys k gx gy)) m.keys;
    }

    -- one more local state
    pub merged_one : (zs xs : List X) (l : Local K V) (k : K) → Each G zs → Each G xs → Holds E key F xs l → merge_one E M (F []) k (F (of_key E key zs k)) l ≡ F (of_key E key (zs ++ xs) k)
    merged_one zs xs l k gz gx h = elim (cases_Bool (list_any (λ s. E s k) l.keys)) [
      | inl there ↦ rw there (ap (λ v. M (F (of_key E key zs k)) v) (holds_at xs l k h) ∙ sym (hom_of zs xs k gz gx))
      | inr absent ↦ rw absent (sym (ap F (filter-append (λ x. E (key x) k) zs xs ∙ ap (λ t. of_key E key zs k ++ t) (nothing absent) ∙ append-nil (of_key E key zs k))))
    ]
      where
        nothing : list_any (λ s. E s k) l.keys ≡ false → of_key E key xs k ≡ []
        nothing e = filter-absent (λ x. E (key x) k) xs (sym (list_any-map (λ s. E s k) key xs) ∙ sym (any_distinct E dec (map key xs) k) ∙ ap (λ ks. list_any (λ s. E s k) ks) (sym h.keys_are) ∙ e)

    -- the merged value of a key is that of all its entries
    merged_from : (zs : List X) (xss : List (List X)) (ls : List (Local K V)) (k : K) → Each G zs → Each (Each G) xss → HoldAll E key F xss ls → fold (merge_one E M (F []) k) (F (of_key E key zs k)) ls ≡ F (of_key E key (zs ++ flat_map (λ xs. xs) xss) k)
    merged_from zs [] [] k gz g h = ap (λ ys. F (of_key E key ys k)) (sym (append-nil zs))
    merged_from zs [] (l ∷ ls) k gz g h = absurd h
    merged_from zs (xs ∷ xss) [] k gz g h = absurd h
    merged_from zs (xs ∷ xss) (l ∷ ls) k gz g h =
        ap (λ v. fold (merge_one E M (F []) k) v ls) (merged_one zs xs l k gz g.0 h.0)
        ∙ merged_from (zs ++ xs) xss ls k (Each-append G zs xs gz g.0) g.1 h.1
        ∙ ap (λ ys. F (of_key E key ys k)) (append_assoc zs xs (flat_map (λ xs. xs) xss))

    pub merged_is : (xss : List (List X)) (ls : List (Local K V)) (k : K) → Each (Each G) xss → HoldAll E key F xss ls → merged E M (F []) ls k ≡ F (of_key E key (flat_map (λ xs. xs) xss) k)
    merged_is xss ls k g h = merged_from [] xss ls k tt g h

    -- the keys of the local states are those of all entries
    pub merged_members : (xss : List (List X)) (ls : List (Local K V)) (k : K) → HoldAll E key F xss ls → list_any (λ l. list_any (λ s. E s k) l.keys) ls ≡ list_any (λ x. E (key x) k) (flat_map (λ xs. xs) xss)
    merged_members [] [] k h = refl
    merged_members [] (l ∷ ls) k h = absurd h
    merged_members (xs ∷ xss) [] k h = absurd h
    merged_members (xs ∷ xss) (l ∷ ls) k h =
        ap₂ (λ a b. a || b) (ap (λ ks. list_any (λ s. E s k) ks) h.0.keys_are ∙ any_distinct E dec (map key xs) k ∙ list_any-map (λ s. E s k) key xs) (merged_members xss ls k h.1)
        ∙ sym (list_any-append (λ x. E (key x) k) xs (flat_map (λ xs. xs) xss))
