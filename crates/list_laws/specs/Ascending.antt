-- Lists whose numbers rise.
use Rattle.std.specs.Prelude.{ℕ, ◌<◌, ◌≤◌, min, List, [], ◌∷◌}
use Rattle.list_laws.specs.Each.{Each}

-- the numbers rise strictly
abbrev pub Ascends : {X : Type 0} → (X → ℕ) → List X → Type 0
Ascends f [] = Unit {0}
Ascends f (x ∷ xs) = Each (λ y. f x < f y) xs × Ascends f xs

-- the numbers do not fall
abbrev pub Rises : {X : Type 0} → (X → ℕ) → List X → Type 0
Rises f [] = Unit {0}
Rises f (x ∷ xs) = Each (λ y. f x ≤ f y) xs × Rises f xs

-- the least number, or else the top
abbrev pub least : {X : Type 0} → ℕ → (X → ℕ) → List X → ℕ
least top f [] = top
least top f (x ∷ xs) = min (f x) (least top f xs)
