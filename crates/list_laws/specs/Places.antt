-- What holds of the items of lists, place by place.
use Rattle.std.specs.Prelude.{◌≡◌, ℕ, zero, suc, ◌+◌, ◌⊎◌, List, [], ◌∷◌}

-- P holds of each item and its place, counted from n
abbrev pub EachFrom : {X : Type 0} → (ℕ → X → Type 0) → ℕ → List X → Type 0
EachFrom P n [] = Unit {0}
EachFrom P n (x ∷ xs) = P n x × EachFrom P (n + 1) xs

-- P holds of the items of two lists at each place, counted from n
abbrev pub PairsFrom : {X Y : Type 0} → (ℕ → X → Y → Type 0) → ℕ → List X → List Y → Type 0
PairsFrom P n [] [] = Unit {0}
PairsFrom P n [] (y ∷ ys) = ⊥
PairsFrom P n (x ∷ xs) [] = ⊥
PairsFrom P n (x ∷ xs) (y ∷ ys) = P n x y × PairsFrom P (n + 1) xs ys

-- the first i items have changed by P, and the others are the same
abbrev pub ChangedFront : {X : Type 0} → (ℕ → X → X → Type 0) → ℕ → ℕ → List X → List X → Type 0
ChangedFront P n zero xs ys = ys ≡ xs
ChangedFront P n (suc i) [] [] = Unit {0}
ChangedFront P n (suc i) [] (y ∷ ys) = ⊥
ChangedFront P n (suc i) (x ∷ xs) [] = ⊥
ChangedFront P n (suc i) (x ∷ xs) (y ∷ ys) = P n x y × ChangedFront P (n + 1) i xs ys

-- the item at place i has changed by P, and the others are the same
abbrev pub ChangedAt : {X : Type 0} → (X → X → Type 0) → ℕ → List X → List X → Type 0
ChangedAt P i [] ys = ⊥
ChangedAt P i (x ∷ xs) [] = ⊥
ChangedAt P zero (x ∷ xs) (y ∷ ys) = P x y × (ys ≡ xs)
ChangedAt P (suc i) (x ∷ xs) (y ∷ ys) = (y ≡ x) × ChangedAt P i xs ys

-- x stands in the list
abbrev pub IsIn : {X : Type 0} → X → List X → Type 0
IsIn x [] = ⊥
IsIn x (y ∷ ys) = (x ≡ y) ⊎ IsIn x ys

-- P holds of the item at place i
abbrev pub At : {X : Type 0} → (X → Type 0) → ℕ → List X → Type 0
At P i [] = ⊥
At P zero (x ∷ xs) = P x
At P (suc i) (x ∷ xs) = At P i xs
