-- An order is whole where its numbers are below the count, and each number below the count stands there once.
use Rattle.std.proofs.Common.{◌≡◌, ◌↔◌, ℕ, zero, suc, ◌+◌, ◌<◌, ◌≤◌, eqb, Bool, true, false, IsTrue, List, [], ◌∷◌, refl, sym, ◌∙◌, subst, inl, inr, arith}
use Rattle.std.specs.Prelude.{nat_lt}
use Rattle.std.specs.List.{list_all, range_with_len, count_by}
use Rattle.std.proofs.lemmas.Bool.{cases_eq, eqb-true, eq-eqb, false≢true, lt-ltb, ltb-true}
use Rattle.list_laws.specs.Each.{Each}
use Rattle.list_laws.specs.Orders.{IsWhole}
use Rattle.list_laws.proofs.Each.{Each-weaker}
use Rattle.list_laws.proofs.Halves.{both}
use Rattle.list_laws.proofs.Ranges.{Each-range}

-- a test that each item passes
each_passes : {X : Type 0} (p : X → Bool) (P : X → Type 0) → ((x : X) → p x ≡ true → P x) → (xs : List X) → list_all p xs ≡ true → Each P xs
each_passes p P f [] h = tt
each_passes p P f (x ∷ xs) h = let halves = both (p x) (list_all p xs) h in (f x halves.0, each_passes p P f xs halves.1)

all_pass : {X : Type 0} (p : X → Bool) (xs : List X) → Each (λ x. p x ≡ true) xs → list_all p xs ≡ true
all_pass p [] h = refl
all_pass p (x ∷ xs) h = rw h.0 (all_pass p xs h.1)

-- what holds of each number of a range
in_range : (P : ℕ → Type 0) (a n k : ℕ) → Each P (range_with_len a n) → a ≤ k → k < a + n → P k
in_range P a zero k h l m = absurd (omega arith)
in_range P a (suc n) k h l m = elim (cases_eq a k) [
  | inl same ↦ subst P same h.0
  | inr other ↦ in_range P (a + 1) n k h.1 (omega (arith, other)) (omega arith)
]

module _ (count : ℕ) (order : List ℕ) where
  abbrev stands_once : ℕ → Bool
  stands_once k = eqb (count_by (λ x. eqb x k) order) 1

  abbrev IsOnce : ℕ → Type 0
  IsOnce k = count_by (λ x. eqb x k) order ≡ 1

  pub whole_once : (below once : Bool) → below ≡ list_all (λ x. nat_lt x count) order → once ≡ list_all stands_once (range_with_len 0 count) → below ≡ true → IsTrue once ↔ IsWhole count order
  whole_once below once b o t = (
    (λ h.
        let each : Each IsOnce (range_with_len 0 count) = each_passes stands_once IsOnce (λ k e. eqb-true (count_by (λ x. eqb x k) order) 1 e) (range_with_len 0 count) (sym o ∙ h) in
        record {
          once = λ k l. in_range IsOnce 0 count k each (omega arith) (omega arith);
          below = each_passes (λ x. nat_lt x count) (λ x. x < count) (λ x e. ltb-true x count e) order (sym b ∙ t);
        }),
    (λ w. o ∙ all_pass stands_once (range_with_len 0 count) (Each-range (λ k. stands_once k ≡ true) 0 count (λ k l m. eq-eqb (count_by (λ x. eqb x k) order) 1 (w.once k (omega arith))))),
  )

  pub not_whole : (below : Bool) → below ≡ list_all (λ x. nat_lt x count) order → below ≡ false → IsTrue below ↔ IsWhole count order
  not_whole below b f = (
    (λ h. absurd (false≢true (sym f ∙ h))),
    (λ w. b ∙ all_pass (λ x. nat_lt x count) order (Each-weaker (λ x. x < count) (λ x. nat_lt x count ≡ true) order (λ x l. lt-ltb x count l) w.below)),
  )
