-- The best value of a list.
use Rattle.std.proofs.Common.{◌≡◌, suc, ℤ, Bool, true, false, cond, List, [], ◌∷◌, ◌++◌, get_or, refl, ap, ◌∙◌, sym, subst, arith}
use Rattle.std.specs.List.{All, Contains}
use Rattle.std.proofs.lemmas.List.Elements.{Contains-append_left, Contains-push, All-push}
use Rattle.col_arrays.specs.Items.{stored}
use Rattle.lane_kernels.specs.Positions.{IsBest, present_values, filtered}

-- a value that the next does not beat stays the best
pub best_kept : {A : Type 0} (beats : ℤ → ℤ → Bool) (value : A → ℤ) (xs : List A) (best x : A) → IsBest beats value xs best → beats (value x) (value best) ≡ false → IsBest beats value (xs ++ x ∷ []) best
best_kept beats value xs best x before unbeaten = record {
  among = Contains-append_left xs (x ∷ []) best before.among;
  unbeaten = All-push (λ y. beats (value y) (value best) ≡ false) xs x before.unbeaten unbeaten;
}

-- a value that beats the best is the best
pub best_replaced : {A : Type 0} (beats : ℤ → ℤ → Bool) (value : A → ℤ) (xs : List A) (best x : A) → ((a b c : ℤ) → beats a b ≡ true → beats c b ≡ false → beats c a ≡ false) → ((a : ℤ) → beats a a ≡ false)
    → IsBest beats value xs best → beats (value x) (value best) ≡ true → IsBest beats value (xs ++ x ∷ []) x
best_replaced beats value xs best x beaten tie before wins = record {
  among = Contains-push xs x;
  unbeaten = All-push (λ y. beats (value y) (value x) ≡ false) xs x (λ k d l. beaten (value x) (value best) (value (get_or xs k d)) wins (before.unbeaten k d l)) (tie (value x));
}

-- the first value is the best
pub best_first : {A : Type 0} (beats : ℤ → ℤ → Bool) (value : A → ℤ) (xs : List A) (x : A) → ((a : ℤ) → beats a a ≡ false) → xs ≡ [] → IsBest beats value (xs ++ x ∷ []) x
best_first {A = A} beats value xs x tie none =
    let none_beats : All (λ (y : A). beats (value y) (value x) ≡ false) xs = subst (All (λ (y : A). beats (value y) (value x) ≡ false)) (sym none) (λ k d l. absurd (omega arith)) in
    record { among = Contains-push xs x; unbeaten = All-push (λ y. beats (value y) (value x) ≡ false) xs x none_beats (tie (value x)) }

-- where all items are present, the present values are all that is stored
pub present_all : {A : Type 0} (items : List (A × Bool)) → All (λ (item : A × Bool). item.1 ≡ true) items → present_values items ≡ stored items
present_all [] all = refl
present_all (item ∷ items) all =
    let front = present_values items in
    ap (λ b. cond b (item.0 ∷ front) front) (all 0 item (omega arith)) ∙ ap (λ rest. item.0 ∷ rest) (present_all items (λ k d l. all (suc k) d (omega arith)))
