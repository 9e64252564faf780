-- Four items, two in each of two parts.
use Rattle.std.proofs.Common.{◌≡◌, ◌<◌, ℕ, zero, suc, [], ◌∷◌, refl, arith}
use Rattle.std.proofs.lemmas.List.Elements.{All-nil, All-cons}
use Rattle.std.specs.Prelude.{slice_index_or, count_by, ◌==◌}
use Rattle.group_parts.specs.Parts.{AreSizes}

pub two_parts : AreSizes (2 ∷ 2 ∷ []) (1 ∷ 0 ∷ 1 ∷ 0 ∷ [])
two_parts = record {
  inside =
      All-cons below 1 (0 ∷ 1 ∷ 0 ∷ []) (omega arith)
      (All-cons below 0 (1 ∷ 0 ∷ []) (omega arith)
      (All-cons below 1 (0 ∷ []) (omega arith)
      (All-cons below 0 [] (omega arith) (All-nil below))));
  exact = exact;
}
  where
    below : ℕ → Type 0
    below p = p < 2

    exact : (p : ℕ) → p < 2 → slice_index_or (2 ∷ 2 ∷ []) p 0 ≡ count_by (λ i. i == p) (1 ∷ 0 ∷ 1 ∷ 0 ∷ [])
    exact zero h = refl
    exact (suc zero) h = refl
    exact (suc (suc p)) h = absurd (omega (arith, h))
