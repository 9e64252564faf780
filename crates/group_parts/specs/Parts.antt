-- A list that is dealt into parts.
use Rattle.std.specs.Prelude.{◌≡◌, ◌<◌, ◌==◌, ℕ, if◌then◌else◌, count_by, List, [], ◌∷◌, length, slice_index_or}
use Rattle.std.specs.List.{All}

-- the items of part p, in order: item i goes to part i of the indexes
abbrev pub dealt : {A : Type 0} → ℕ → List ℕ → List A → List A
dealt p [] xs = []
dealt p (i ∷ is) [] = []
dealt p (i ∷ is) (x ∷ xs) = if i == p then x ∷ dealt p is xs else dealt p is xs

-- each index names a part, and the sizes are how often each part is named
pub record AreSizes (sizes idxs : List ℕ) : Type 0 where
  pub inside : All (λ p. p < length sizes) idxs
  pub exact : (p : ℕ) → p < length sizes → slice_index_or sizes p 0 ≡ count_by (λ i. i == p) idxs
