-- Numbers in another order.
use Rattle.std.specs.Prelude.{◌≡◌, ℕ, ◌<◌, ◌%◌, eqb, List, filter}
use Rattle.std.specs.List.{count_by}
use Rattle.list_laws.specs.Each.{Each}

-- each number below the count stands there exactly once, and no other number does
pub record IsWhole (count : ℕ) (order : List ℕ) : Type 0 where
  pub once : (k : ℕ) → k < count → count_by (λ x. eqb x k) order ≡ 1
  pub below : Each (λ x. x < count) order

-- the numbers of an order that one of n states takes
abbrev pub taken : ℕ → List ℕ → ℕ → List ℕ
taken n order s = filter (λ i. eqb (i % n) s) order
