-- The states of the numbers, one after another.
use Rattle.std.proofs.Common.{◌≡◌, ℕ, suc, ◌+◌, ◌*◌, ℤ, pos, ◌%◌, List, [], ◌∷◌, ◌++◌, map, sym, ap, ap₂, ◌∙◌, add-one, zero-add, FitsSigned, w64, to_z, of_z, arith}
use Rattle.std.specs.List.{range_with_len}
use Rattle.std.proofs.lemmas.Int.{to_z-of_z}
use Rattle.std.proofs.lemmas.List.FromFn.{map-range_with_len_more}
use Rattle.join_generator.specs.Generated.{next_state, state_after, upper_bits, drawn, amount, build_group, probe_id, probe_amount}

-- one number more
number_more : (f : ℕ → ℤ) (k : ℕ) (xs ys : List ℤ) (z : ℤ) → xs ≡ map f (range_with_len 0 k) → ys ≡ xs ++ z ∷ [] → z ≡ f k → ys ≡ map f (range_with_len 0 (k + 1))
number_more f k xs ys z e h g = h ∙ ap₂ (λ (zs : List ℤ) (x : ℤ). zs ++ x ∷ []) e g ∙ sym (map-range_with_len_more f 0 k k (zero-add k))

-- one number more, which was passed by value
pub passed_more : (f : ℕ → ℤ) (k : ℕ) (xs ys : List ℤ) (z : ℤ) → FitsSigned w64 z → xs ≡ map f (range_with_len 0 k) → ys ≡ xs ++ to_z w64 (of_z w64 z) ∷ [] → z ≡ f k → ys ≡ map f (range_with_len 0 (k + 1))
passed_more f k xs ys z fits e h g = number_more f k xs ys (to_z w64 (of_z w64 z)) e h (to_z-of_z w64 z fits ∙ g)

-- one draw more
pub state_more : (k s t : ℕ) → s ≡ state_after k → t ≡ next_state s → t ≡ state_after (k + 1)
state_more k s t e h = h ∙ ap next_state e ∙ sym (ap state_after (add-one k))

-- the number of a build row
pub group_is : (k s t r : ℕ) → s ≡ state_after k → t ≡ next_state s → r ≡ upper_bits t → pos (r % 100) ≡ build_group k
group_is k s t r e h d = ap (λ (x : ℕ). pos (x % 100)) (d ∙ ap upper_bits (h ∙ ap next_state e))

-- the two numbers of a probe row
pub id_is : (n j s t r : ℕ) → s ≡ state_after (n + 2 * j) → t ≡ next_state s → r ≡ upper_bits t → pos (r % n) ≡ probe_id n j
id_is n j s t r e h d = ap (λ (x : ℕ). pos (x % n)) (d ∙ ap upper_bits (h ∙ ap next_state e))

two_more : (n j s t u : ℕ) → s ≡ state_after (n + 2 * j) → t ≡ next_state s → u ≡ next_state t → u ≡ state_after (suc (n + 2 * j + 1))
two_more n j s t u e h g = g ∙ ap next_state (state_more (n + 2 * j) s t e h)

pub amount_is : (n j s t u r : ℕ) → s ≡ state_after (n + 2 * j) → t ≡ next_state s → u ≡ next_state t → r ≡ upper_bits u → amount r ≡ probe_amount n j
amount_is n j s t u r e h g d = ap amount (d ∙ ap upper_bits (two_more n j s t u e h g))

pub row_more : (n j s t u : ℕ) → s ≡ state_after (n + 2 * j) → t ≡ next_state s → u ≡ next_state t → u ≡ state_after (n + 2 * (j + 1))
row_more n j s t u e h g = two_more n j s t u e h g ∙ ap state_after (let k : suc (n + 2 * j + 1) ≡ n + 2 * (j + 1) = omega arith in k)
