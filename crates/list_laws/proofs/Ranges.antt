-- The numbers of a range.
use Rattle.std.proofs.Common.{◌≡◌, ℕ, zero, suc, ◌+◌, ◌<◌, ◌≤◌, eqb, true, false, refl, inl, inr, arith}
use Rattle.std.specs.Bool.{Decides}
use Rattle.std.specs.List.{list_any, range_with_len}
use Rattle.std.proofs.lemmas.Bool.{cases_Bool, eqb-true, eq-eqb, eqb-false, ne_eqb}
use Rattle.list_laws.specs.Each.{Each}
use Rattle.list_laws.specs.Distinct.{NoRepeat}

pub eqb-Decides : (a b : ℕ) → Decides (eqb a b) (a ≡ b)
eqb-Decides a b = (eqb-true a b, eq-eqb a b)

-- numbers in a range
pub not_in_range : (a n k : ℕ) → k < a → list_any (λ s. eqb s k) (range_with_len a n) ≡ false
not_in_range a zero k h = refl
not_in_range a (suc n) k h = rw (ne_eqb a k (λ e. omega arith), not_in_range (a + 1) n k (omega arith)) refl

pub range_apart : (a n : ℕ) → NoRepeat eqb (range_with_len a n)
range_apart a zero = tt
range_apart a (suc n) = (not_in_range (a + 1) n a (omega arith), range_apart (a + 1) n)

pub in_range : (a n k : ℕ) → a ≤ k → k < a + n → list_any (λ s. eqb s k) (range_with_len a n) ≡ true
in_range a zero k h l = absurd (omega arith)
in_range a (suc n) k h l = elim (cases_Bool (eqb a k)) [
  | inl same ↦ rw same refl
  | inr apart ↦
      let ne : a ≡ k → ⊥ = eqb-false a k apart in
      rw (apart, in_range (a + 1) n k (omega arith) (omega arith)) refl
]

pub Each-range : (P : ℕ → Type 0) (a n : ℕ) → ((k : ℕ) → a ≤ k → k < a + n → P k) → Each P (range_with_len a n)
Each-range P a zero h = tt
Each-range P a (suc n) h = (h a (omega arith) (omega arith), Each-range P (a + 1) n (λ k l m. h k (omega arith) (omega arith)))
