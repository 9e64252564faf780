-- The numbers from 0 on as an order.
use Rattle.std.proofs.Common.{◌≡◌, ◌≢◌, ℕ, zero, suc, ◌+◌, ◌<◌, ◌≤◌, eqb, true, false, cond, Bool, refl, ap₂, ◌∙◌, inl, inr, arith}
use Rattle.std.specs.List.{range_with_len, count_by}
use Rattle.std.proofs.lemmas.Bool.{cases_Bool, eqb-false, eqb-true, ne_eqb}
use Rattle.std.proofs.lemmas.List.Sums.{sum_by-cons}
use Rattle.list_laws.specs.Each.{Each}
use Rattle.list_laws.specs.Orders.{IsWhole}
use Rattle.list_laws.proofs.Ranges.{Each-range}

one_more : (a n k : ℕ) (b : Bool) (m : ℕ) → eqb a k ≡ b → count_by (λ x. eqb x k) (range_with_len (a + 1) n) ≡ m → count_by (λ x. eqb x k) (range_with_len a (suc n)) ≡ cond b 1 0 + m
one_more a n k b m e f = sum_by-cons (λ x. cond (eqb x k) 1 0) a (range_with_len (a + 1) n) ∙ ap₂ (λ (b : Bool) (m : ℕ). cond b 1 0 + m) e f

count_none : (a n k : ℕ) → k < a → count_by (λ x. eqb x k) (range_with_len a n) ≡ 0
count_none a zero k l = refl
count_none a (suc n) k l = one_more a n k false 0 (ne_eqb a k (λ e. omega arith)) (count_none (a + 1) n k (omega arith))

count_once : (a n k : ℕ) → a ≤ k → k < a + n → count_by (λ x. eqb x k) (range_with_len a n) ≡ 1
count_once a zero k l m = absurd (omega arith)
count_once a (suc n) k l m = elim (cases_Bool (eqb a k)) [
  | inl same ↦ let e = eqb-true a k same in one_more a n k true 0 same (count_none (a + 1) n k (omega arith))
  | inr apart ↦ let ne = eqb-false a k apart in one_more a n k false 1 apart (count_once (a + 1) n k (omega (arith, ne)) (omega arith))
]

-- each number below the count stands there once
pub range_whole : (n : ℕ) → IsWhole n (range_with_len 0 n)
range_whole n = record { once = λ k l. count_once 0 n k (omega arith) (omega arith); below = Each-range (λ (x : ℕ). x < n) 0 n (λ k l m. omega arith) }

-- the next number is not among them
pub range_other : (i : ℕ) → Each (λ j. j ≢ i) (range_with_len 0 i)
range_other i = Each-range (λ (j : ℕ). j ≢ i) 0 i (λ k l m e. absurd (omega arith))
