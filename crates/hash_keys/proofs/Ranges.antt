-- Numbers in a row, and a number equal to itself.
use Rattle.std.proofs.Common.{◌≡◌, ℕ, zero, suc, ◌+◌, ◌==◌, Bool, true, false, T, List, [], ◌∷◌, ◌++◌, refl, ap, ◌∙◌, add-one, zero-add, arith}
use Rattle.std.specs.List.{range_with_len}
use Rattle.std.proofs.Math.Dec.{eqb_refl}

range-suc : (a n : ℕ) → range_with_len a (suc n) ≡ range_with_len a n ++ (a + n) ∷ []
range-suc a zero = ap (λ (m : ℕ). m ∷ []) (let e : a ≡ a + 0 = omega arith in e)
range-suc a (suc n) =
    ap (λ (l : List ℕ). a ∷ l) (range-suc (a + 1) n ∙ ap (λ (m : ℕ). range_with_len (a + 1) n ++ m ∷ []) (let e : (a + 1) + n ≡ a + suc n = omega arith in e))

pub range-next : (n : ℕ) → range_with_len 0 (suc n) ≡ range_with_len 0 n ++ n ∷ []
range-next n = range-suc 0 n ∙ ap (λ (m : ℕ). range_with_len 0 n ++ m ∷ []) (zero-add n)

pub range-more : (n : ℕ) → range_with_len 0 (n + 1) ≡ range_with_len 0 n ++ n ∷ []
range-more n = ap (range_with_len 0) (add-one n) ∙ range-next n

pub eqb-same : (n : ℕ) → (n == n) ≡ true
eqb-same n = holds (n == n) (eqb_refl n)
  where
    holds : (b : Bool) → T b → b ≡ true
    holds true t = refl
    holds false t = absurd t
