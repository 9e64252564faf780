-- The first place of an item that passes a test.
use Rattle.std.proofs.Common.{◌≡◌, ℕ, ◌+◌, Bool, true, false, List, [], ◌∷◌, ◌++◌, map, length, cond, Option, Some, None, refl, sym, ap, ◌∙◌, arith, inl, inr}
use Rattle.std.specs.Prelude.{position}
use Rattle.std.specs.List.{position_or_len}
use Rattle.std.specs.Option.{option_map, option_or}
use Rattle.std.proofs.lemmas.Bool.{cases_Bool, cases_lt}
use Rattle.std.proofs.lemmas.Grind.{common_steps}

-- a place that counts on from n items
abbrev pub after : ℕ → Option ℕ → Option ℕ
after n place = option_map (λ i. n + i) place

-- of an item, or among those after it
position-cons : {X : Type 0} (p : X → Bool) (x : X) (xs : List X) → position p (x ∷ xs) ≡ cond (p x) (Some 0) (after 1 (position p xs))
position-cons p x xs = elim (cases_Bool (p x)) [
  | inl here ↦ grind (arith, common_steps)
  | inr other ↦ elim (cases_lt (position_or_len p xs) (length xs)) [
    | inl within ↦ grind (arith, common_steps)
    | inr past ↦ grind (arith, common_steps)
  ]
]

after-after : (m n : ℕ) (place : Option ℕ) → after m (after n place) ≡ after (m + n) place
after-after m n None = refl
after-after m n (Some i) = ap Some (omega arith)

after-zero : (place : Option ℕ) → after 0 place ≡ place
after-zero None = refl
after-zero (Some i) = ap Some (omega arith)

-- in two lists, one after the other
pub position-append : {X : Type 0} (p : X → Bool) (xs ys : List X) → position p (xs ++ ys) ≡ option_or (position p xs) (after (length xs) (position p ys))
position-append p [] ys = sym (after-zero (position p ys))
position-append p (x ∷ xs) ys =
    position-cons p x (xs ++ ys)
    ∙ ap (λ place. cond (p x) (Some 0) (after 1 place)) (position-append p xs ys)
    ∙ step (p x) (position p xs)
    ∙ ap (λ place. option_or place (after (length (x ∷ xs)) (position p ys))) (sym (position-cons p x xs))
  where
    step : (b : Bool) (place : Option ℕ) → cond b (Some 0) (after 1 (option_or place (after (length xs) (position p ys)))) ≡ option_or (cond b (Some 0) (after 1 place)) (after (length (x ∷ xs)) (position p ys))
    step true place = refl
    step false None = after-after 1 (length xs) (position p ys) ∙ ap (λ n. after n (position p ys)) (omega arith)
    step false (Some i) = refl

-- of what a function gives
pub position-map : {X Y : Type 0} (p : Y → Bool) (f : X → Y) (xs : List X) → position p (map f xs) ≡ position (λ x. p (f x)) xs
position-map p f [] = refl
position-map p f (x ∷ xs) = position-cons p (f x) (map f xs) ∙ ap (λ place. cond (p (f x)) (Some 0) (after 1 place)) (position-map p f xs) ∙ sym (position-cons (λ y. p (f y)) x xs)
