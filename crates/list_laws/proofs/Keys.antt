-- Keys among lists of keys.
use Rattle.std.proofs.Common.{◌≡◌, Bool, true, false, ◌||◌, cond, List, [], ◌∷◌, ◌++◌, map, fold, refl, sym, ap, ◌∙◌, subst, inl, inr}
use Rattle.std.specs.Bool.{Decides}
use Rattle.std.specs.List.{list_any}
use Rattle.std.proofs.lemmas.Bool.{false≢true, cases_Bool, or_parts}
use Rattle.list_laws.specs.Each.{Each}
use Rattle.list_laws.specs.Distinct.{NoRepeat, with_new, distinct}
use Rattle.list_laws.proofs.Halves.{or_none, or_assoc}

pub list_any-append : {X : Type 0} (p : X → Bool) (xs ys : List X) → list_any p (xs ++ ys) ≡ (list_any p xs || list_any p ys)
list_any-append p [] ys = refl
list_any-append p (x ∷ xs) ys = ap (λ b. p x || b) (list_any-append p xs ys) ∙ sym (or_assoc (p x) (list_any p xs) (list_any p ys))

pub list_any-map : {X Y : Type 0} (p : Y → Bool) (f : X → Y) (xs : List X) → list_any p (map f xs) ≡ list_any (λ x. p (f x)) xs
list_any-map p f [] = refl
list_any-map p f (x ∷ xs) = ap (λ b. p (f x) || b) (list_any-map p f xs)

module _ {K : Type 0} (E : K → K → Bool) (dec : (a b : K) → Decides (E a b) (a ≡ b)) where
  pub same_self : (a : K) → E a a ≡ true
  same_self a = (dec a a).1 refl

  pub flips_false : (a b : K) → E a b ≡ false → E b a ≡ false
  flips_false a b h = elim (E b a) as (λ v. E b a ≡ v → v ≡ false) [
    | true ↦ λ e. absurd (false≢true (sym h ∙ (dec a b).1 (sym ((dec b a).0 e))))
    | false ↦ λ e. refl
  ] refl

  -- what holds of each key holds of one among them
  pub each_at : (P : K → Type 0) (xs : List K) (k : K) → Each P xs → list_any (λ s. E s k) xs ≡ true → P k
  each_at P [] k h a = absurd (false≢true a)
  each_at P (x ∷ xs) k h a = elim (cases_Bool (E x k)) [
    | inl same ↦ subst P ((dec x k).0 same) h.0
    | inr apart ↦ each_at P xs k h.1 (rw apart at a)
  ]

  pub no_repeat_push : (xs : List K) (k : K) → NoRepeat E xs → list_any (λ s. E s k) xs ≡ false → NoRepeat E (xs ++ k ∷ [])
  no_repeat_push [] k n h = (refl, tt)
  no_repeat_push (x ∷ xs) k n h =
      let both = or_parts (E x k) (list_any (λ s. E s k) xs) h in
      (list_any-append (λ s. E s x) xs (k ∷ []) ∙ rw (n.0, flips_false x k both.0) refl, no_repeat_push xs k n.1 both.1)

  pub no_repeat_from : (seen ks : List K) → NoRepeat E seen → NoRepeat E (fold (with_new E) seen ks)
  no_repeat_from seen [] n = n
  no_repeat_from seen (k ∷ ks) n = no_repeat_from (with_new E seen k) ks (elim (list_any (λ s. E s k) seen) as (λ v. list_any (λ s. E s k) seen ≡ v → NoRepeat E (cond v seen (seen ++ k ∷ []))) [
    | true ↦ λ e. n
    | false ↦ λ e. no_repeat_push seen k n e
  ] refl)

  pub distinct_apart : (ks : List K) → NoRepeat E (distinct E ks)
  distinct_apart ks = no_repeat_from [] ks tt

  -- a key is among a list with one more exactly where it was, or is that one
  pub any_with_new : (seen : List K) (x k : K) → list_any (λ s. E s k) (with_new E seen x) ≡ (list_any (λ s. E s k) seen || E x k)
  any_with_new seen x k = elim (cases_Bool (list_any (λ s. E s x) seen)) [
    | inl old ↦ rw old (elim (cases_Bool (E x k)) [
      | inl same ↦ rw same (
          let here : x ≡ k = (dec x k).0 same in
          let was : list_any (λ s. E s k) seen ≡ true = subst (λ (y : K). list_any (λ s. E s y) seen ≡ true) here old in
          cc (was, ap (λ (b : Bool). b || true) was))
      | inr differs ↦ rw differs (sym (or_none (list_any (λ s. E s k) seen)))
    ])
    | inr fresh ↦ rw fresh (list_any-append (λ s. E s k) seen (x ∷ []) ∙ ap (λ b. list_any (λ s. E s k) seen || b) (or_none (E x k)))
  ]

  pub any_from : (seen ks : List K) (k : K) → list_any (λ s. E s k) (fold (with_new E) seen ks) ≡ (list_any (λ s. E s k) seen || list_any (λ s. E s k) ks)
  any_from seen [] k = sym (or_none (list_any (λ s. E s k) seen))
  any_from seen (x ∷ ks) k = any_from (with_new E seen x) ks k ∙ ap (λ (b : Bool). b || list_any (λ s. E s k) ks) (any_with_new seen x k) ∙ or_assoc (list_any (λ s. E s k) seen) (E x k) (list_any (λ s. E s k) ks)

  pub any_distinct : (ks : List K) (k : K) → list_any (λ s. E s k) (distinct E ks) ≡ list_any (λ s. E s k) ks
  any_distinct ks k = any_from [] ks k
