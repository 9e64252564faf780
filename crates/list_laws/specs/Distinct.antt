-- The distinct items of a list, under a test of equality.
use Rattle.std.specs.Prelude.{◌≡◌, Bool, false, ◌||◌, cond, List, [], ◌∷◌, ◌++◌, fold}
use Rattle.std.specs.List.{list_any}

-- a list with an item at its end, unless it stands there already
abbrev pub with_new : {K : Type 0} → (K → K → Bool) → List K → K → List K
with_new E seen k = cond (list_any (λ s. E s k) seen) seen (seen ++ k ∷ [])

-- the distinct items, by first appearance
abbrev pub distinct : {K : Type 0} → (K → K → Bool) → List K → List K
distinct E ks = fold (with_new E) [] ks

-- some item stands twice
abbrev pub has_repeat : {K : Type 0} → (K → K → Bool) → List K → Bool
has_repeat E [] = false
has_repeat E (x ∷ xs) = list_any (λ s. E s x) xs || has_repeat E xs

-- no item stands twice
abbrev pub NoRepeat : {K : Type 0} → (K → K → Bool) → List K → Type 0
NoRepeat E [] = Unit {0}
NoRepeat E (x ∷ xs) = (list_any (λ s. E s x) xs ≡ false) × NoRepeat E xs
