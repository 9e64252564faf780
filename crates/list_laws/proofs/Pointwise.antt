-- Two lists, compared place by place.
use Rattle.std.proofs.Common.{◌≡◌, ◌≢◌, ◌<◌, ◌+◌, ℕ, suc, Bool, true, false, ◌&&◌, List, [], ◌∷◌, length, drop, get_or, refl, ap, ap₂, sym, ◌∙◌}
use Rattle.std.proofs.lemmas.List.{drop_more}
use Rattle.std.specs.Cmp.Lexicographic.{pointwise}

-- from a place on, one place further
pub pointwise-step : {A B : Type 0} (E : A → B → Bool) (xs : List A) (ys : List B) (i : ℕ) (x : A) (y : B) → i < length xs → i < length ys → x ≡ get_or xs i x → y ≡ get_or ys i y
    → pointwise E (drop i xs) (drop i ys) ≡ (E x y && pointwise E (drop (i + 1) xs) (drop (i + 1) ys))
pointwise-step E xs ys i x y h k e d =
    ap₂ (pointwise E) (drop_more xs i x h ∙ ap (λ z. z ∷ drop (i + 1) xs) (sym e)) (drop_more ys i y k ∙ ap (λ z. z ∷ drop (i + 1) ys) (sym d))

-- lists of two lengths differ
pub pointwise-lengths : {A B : Type 0} (E : A → B → Bool) (xs : List A) (ys : List B) → length xs ≢ length ys → pointwise E xs ys ≡ false
pointwise-lengths E [] [] h = absurd (h refl)
pointwise-lengths E [] (y ∷ ys) h = refl
pointwise-lengths E (x ∷ xs) [] h = refl
pointwise-lengths E (x ∷ xs) (y ∷ ys) h = rw (pointwise-lengths E xs ys (λ e. h (ap suc e))) (none (E x y))
  where
    none : (b : Bool) → (b && false) ≡ false
    none true = refl
    none false = refl

pub ruleset place_by_place = (pointwise-step, pointwise-lengths)
