-- Registers, one after the other.
use Rattle.std.proofs.Common.{◌≡◌, ℕ, zero, suc, ◌+◌, ◌<◌, ◌≤◌, max, List, [], ◌∷◌, length, get_or, refl, ap₂, arith}
use Rattle.key_parts.specs.Sketches.{merged}

-- a list is merged where each of its registers is the greatest of two
pub merged_from : (mine theirs now : List ℕ) → length theirs ≡ length mine → length now ≡ length mine
    → ((k : ℕ) → k < length mine → get_or now k 0 ≡ max (get_or mine k 0) (get_or theirs k 0))
    → now ≡ merged mine theirs
merged_from [] [] [] a b each = refl
merged_from [] (y ∷ ys) now a b each = absurd (omega arith)
merged_from [] [] (z ∷ zs) a b each = absurd (omega arith)
merged_from (x ∷ xs) [] now a b each = absurd (omega arith)
merged_from (x ∷ xs) (y ∷ ys) [] a b each = absurd (omega arith)
merged_from (x ∷ xs) (y ∷ ys) (z ∷ zs) a b each =
    ap₂ (λ (h : ℕ) (t : List ℕ). h ∷ t) (each 0 (omega arith))
    (merged_from xs ys zs (omega arith) (omega arith) (λ k h. each (suc k) (omega arith)))
