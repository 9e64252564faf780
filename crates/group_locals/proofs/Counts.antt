-- Keys that numbers below a bound tell apart are no more than the bound.
use Rattle.std.proofs.Common.{◌≡◌, ℕ, ◌<◌, ◌≤◌, eqb, Bool, true, false, ◌||◌, List, [], ◌∷◌, map, length, refl, sym, ◌∙◌, subst, inl, inr, arith}
use Rattle.std.specs.Bool.{Decides}
use Rattle.std.specs.List.{list_any, IsDistinct, AllByRecursion}
use Rattle.std.proofs.lemmas.Bool.{cases_Bool, false≢true, or_parts, eqb-true, ne_eqb}
use Rattle.std.proofs.lemmas.List.{length-map}
use Rattle.std.proofs.lemmas.Map.Keys.{IsDistinct-cons}
use Rattle.std.proofs.lemmas.Map.Steps.{length-le_from_distinct_below}
use Rattle.list_laws.specs.Distinct.{NoRepeat}
use Rattle.list_laws.proofs.Keys.{same_self}

distinct_nil : IsDistinct eqb []
unfolding IsDistinct
distinct_nil = tt

or_true : (b : Bool) → (b || true) ≡ true
or_true true = refl
or_true false = refl

module _ {K : Type 0} (E : K → K → Bool) (dec : (a b : K) → Decides (E a b) (a ≡ b)) where
  pub any_head : (k : K) (ks : List K) → list_any (λ s. E s k) (k ∷ ks) ≡ true
  any_head k ks = rw (same_self E dec k) refl

  pub any_tail : (x k : K) (ks : List K) → list_any (λ s. E s k) ks ≡ true → list_any (λ s. E s k) (x ∷ ks) ≡ true
  any_tail x k ks h = rw h (or_true (E x k))

  module _ (f : K → ℕ) (n : ℕ) where
    below : (ks : List K) → ((k : K) → list_any (λ s. E s k) ks ≡ true → f k < n) → (q : ℕ) → list_any (eqb q) (map f ks) ≡ true → q < n
    below [] g q h = absurd (false≢true h)
    below (k ∷ ks) g q h = elim (cases_Bool (eqb q (f k))) [
      | inl eq ↦ subst (λ (z : ℕ). z < n) (sym (eqb-true q (f k) eq)) (g k (any_head k ks))
      | inr ne ↦ below ks (λ a i. g a (any_tail k a ks i)) q (rw ne at h)
    ]

    others : (k : K) (ks : List K) → list_any (λ s. E s k) ks ≡ false → ((a : K) → list_any (λ s. E s a) ks ≡ true → f k ≡ f a → k ≡ a) → AllByRecursion (λ y. eqb (f k) y ≡ false) (map f ks)
    others k [] h g = tt
    others k (x ∷ xs) h g =
        let both = or_parts (E x k) (list_any (λ s. E s k) xs) h in
        (ne_eqb (f k) (f x) (λ e. false≢true (sym both.0 ∙ (dec x k).1 (sym (g x (any_head x xs) e)))), others k xs both.1 (λ a i e. g a (any_tail x a xs i) e))

    distinct : (ks : List K) → NoRepeat E ks → ((a b : K) → list_any (λ s. E s a) ks ≡ true → list_any (λ s. E s b) ks ≡ true → f a ≡ f b → a ≡ b) → IsDistinct eqb (map f ks)
    distinct [] h g = distinct_nil
    distinct (k ∷ ks) h g = IsDistinct-cons eqb (f k) (map f ks) (others k ks h.0 (λ a i e. g k a (any_head k ks) (any_tail k a ks i) e)) (distinct ks h.1 (λ a b i j e. g a b (any_tail k a ks i) (any_tail k b ks j) e))

    pub count_keys : (ks : List K) → NoRepeat E ks → ((a b : K) → list_any (λ s. E s a) ks ≡ true → list_any (λ s. E s b) ks ≡ true → f a ≡ f b → a ≡ b) → ((k : K) → list_any (λ s. E s k) ks ≡ true → f k < n) → length ks ≤ n
    count_keys ks apart same small =
        let d = length-le_from_distinct_below (map f ks) n (distinct ks apart same) (below ks small) in
        let l = length-map ks f in
        omega arith
