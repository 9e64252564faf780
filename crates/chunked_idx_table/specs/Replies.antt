-- A list of questions, answered in order until the answers number a limit or more.
use Rattle.std.specs.Prelude.{ℕ, suc, ◌-◌, cond, max, nat_le, List, [], ◌∷◌, length, take}
use Rattle.std.specs.List.{flat_map}

-- how many are taken: the least number, from one on, whose answers number the limit or more, and all where there is none
abbrev pub processed : {Q A : Type 0} → (Q → List A) → ℕ → List Q → ℕ
processed f limit [] = 0
processed f limit (q ∷ qs) = cond (nat_le limit (length (f q))) 1 (suc (processed f (limit - length (f q)) qs))

-- the answers of those
abbrev pub replied : {Q A : Type 0} → (Q → List A) → ℕ → List Q → List A
replied f limit qs = flat_map f (take (processed f limit qs) qs)

-- the most answers of one question, and at least 1
abbrev pub most_answers : {Q A : Type 0} → (Q → List A) → List Q → ℕ
most_answers f [] = 1
most_answers f (q ∷ qs) = max (length (f q)) (most_answers f qs)
