-- Lists cut into runs.
use Rattle.std.specs.Prelude.{ℕ, zero, suc, List, [], ◌∷◌, flat_map, length, take, drop}

-- the runs of m items, the last one shorter; at most so many
abbrev pub runs_from : {X : Type 0} → ℕ → ℕ → List X → List (List X)
runs_from zero m xs = []
runs_from (suc n) m [] = []
runs_from (suc n) m (x ∷ xs) = take m (x ∷ xs) ∷ runs_from n m (drop m (x ∷ xs))

abbrev pub runs : {X : Type 0} → ℕ → List X → List (List X)
runs m xs = runs_from (length xs) m xs

-- the morsels of frames
abbrev pub morsels_of : {X : Type 0} → ℕ → List (List X) → List (List X)
morsels_of m frames = flat_map (runs m) frames
