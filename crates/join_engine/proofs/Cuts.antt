-- Runs that are cut off the front of a list, one after the other.
use Rattle.std.proofs.Common.{◌≡◌, ℕ, zero, suc, ◌+◌, ◌-◌, ◌<◌, ◌≤◌, min, List, [], ◌∷◌, ◌++◌, map, flat_map, length, take, drop, refl, sym, ap, ap₂, ◌∙◌, inl, inr, arith}
use Rattle.std.specs.Ordering.{nat_cmp, ord_min}
use Rattle.std.proofs.lemmas.Bool.{cases_lt}
use Rattle.std.proofs.lemmas.List.{append-nil, append_assoc, drop-drop, drop_at, length-append, length-drop, length-map, length-take, nil_from_length, take-append-drop, take_all, take_at}
use Rattle.std.proofs.lemmas.List.Concat.{flat_map-append}
use Rattle.list_laws.specs.Runs.{runs_from, runs}
use Rattle.list_laws.proofs.Lists.{take_map}
use Rattle.list_laws.proofs.Runs.{runs_are}

-- so many runs are enough, and more are the same
enough : {X : Type 0} (n k m : ℕ) (xs : List X) → 0 < m → length xs ≤ n → length xs ≤ k → runs_from n m xs ≡ runs_from k m xs
enough zero zero m xs p a b = refl
enough zero (suc k) m [] p a b = refl
enough zero (suc k) m (x ∷ xs) p a b = absurd (omega arith)
enough (suc n) zero m [] p a b = refl
enough (suc n) zero m (x ∷ xs) p a b = absurd (omega arith)
enough (suc n) (suc k) m [] p a b = refl
enough (suc n) (suc k) m (x ∷ xs) p a b =
    let l = length-drop m (x ∷ xs) in
    ap (λ rs. take m (x ∷ xs) ∷ rs) (enough n k m (drop m (x ∷ xs)) p (omega arith) (omega arith))

-- the first run, and those of what is left
first_run : {X : Type 0} (m : ℕ) (xs : List X) → 0 < m → 0 < length xs → runs m xs ≡ take m xs ∷ runs m (drop m xs)
first_run m [] p h = absurd (omega arith)
first_run m (x ∷ xs) p h =
    let l = length-drop m (x ∷ xs) in
    ap (λ rs. take m (x ∷ xs) ∷ rs) (enough (length xs) (length (drop m (x ∷ xs))) m (drop m (x ∷ xs)) p (omega arith) (omega arith))

-- a front of as many items as a run has, or fewer where it is the whole list
pub runs_front : {X : Type 0} (m : ℕ) (front rest : List X) → 0 < m → 0 < length front → length front ≡ min m (length (front ++ rest)) → runs m (front ++ rest) ≡ front ∷ runs m rest
runs_front {X} m front rest p some is =
    let long = length-append front rest in
    elim (cases_lt (length front) m) [
      | inl less ↦
          let none : rest ≡ [] = nil_from_length rest (omega arith) in
          let all : front ++ rest ≡ front = ap (λ (ys : List X). front ++ ys) none ∙ append-nil front in
          first_run m (front ++ rest) p (omega arith)
          ∙ ap₂ (λ (t d : List X). t ∷ runs m d)
          (take_all m (front ++ rest) (omega arith) ∙ all)
          (nil_from_length (drop m (front ++ rest)) (omega (arith, length-drop m (front ++ rest))) ∙ sym none)
      | inr past ↦
          let full : length front ≡ m = omega arith in
          first_run m (front ++ rest) p (omega arith)
          ∙ ap₂ (λ (t d : List X). t ∷ runs m d) (take_at front rest m full) (drop_at front rest m full)
    ]

-- what was cut, and what is left, are the list
pub runs_cut : {X : Type 0} (m : ℕ) (xs rest : List X) (done : List (List X)) → 0 < m → runs m xs ≡ done ++ runs m rest → xs ≡ flat_map (λ r. r) done ++ rest
runs_cut {X} m xs rest done p is =
    sym (runs_are m xs p)
    ∙ ap (flat_map (λ (r : List X). r)) is
    ∙ flat_map-append (λ r. r) done (runs m rest)
    ∙ ap (λ ys. flat_map (λ r. r) done ++ ys) (runs_are m rest p)

-- one more run is cut
pub runs_more : {X : Type 0} (m : ℕ) (xs front rest : List X) (done : List (List X)) → 0 < m → 0 < length front → length front ≡ min m (length (front ++ rest)) → runs m xs ≡ done ++ runs m (front ++ rest) → runs m xs ≡ (done ++ front ∷ []) ++ runs m rest
runs_more m xs front rest done p some long is =
    is
    ∙ ap (λ rs. done ++ rs) (runs_front m front rest p some long)
    ∙ sym (append_assoc done (front ∷ []) (runs m rest))

-- and none is left
pub runs_done : {X : Type 0} (m : ℕ) (xs rest : List X) (done : List (List X)) → length rest ≡ 0 → runs m xs ≡ done ++ runs m rest → runs m xs ≡ done
runs_done {X} m xs rest done none is = is ∙ ap (λ (ys : List X). done ++ runs m ys) (nil_from_length rest none) ∙ append-nil done

-- a list that is no longer than a run
pub one_run : {X : Type 0} (m : ℕ) (xs : List X) → 0 < length xs → length xs ≤ m → runs m xs ≡ xs ∷ []
one_run m xs some few =
    ap (runs m) (sym (append-nil xs))
    ∙ runs_front m xs [] (omega arith) some (omega (arith, ap length (append-nil xs)))

-- the runs of what is made of each item
drop_map : {A B : Type 0} (f : A → B) (n : ℕ) (xs : List A) → drop n (map f xs) ≡ map f (drop n xs)
drop_map f zero xs = refl
drop_map f (suc n) [] = refl
drop_map f (suc n) (x ∷ xs) = drop_map f n xs

runs_from_map : {A B : Type 0} (f : A → B) (n m : ℕ) (xs : List A) → runs_from n m (map f xs) ≡ map (map f) (runs_from n m xs)
runs_from_map f zero m xs = refl
runs_from_map f (suc n) m [] = refl
runs_from_map {A} {B} f (suc n) m (x ∷ xs) =
    ap₂ (λ (r : List B) (rs : List (List B)). r ∷ rs) (take_map f m (x ∷ xs)) (ap (runs_from n m) (drop_map f m (x ∷ xs)) ∙ runs_from_map f n m (drop m (x ∷ xs)))

pub runs_map : {A B : Type 0} (f : A → B) (m : ℕ) (xs : List A) → runs m (map f xs) ≡ map (map f) (runs m xs)
runs_map f m xs = ap (λ n. runs_from n m (map f xs)) (length-map xs f) ∙ runs_from_map f (length xs) m xs

-- the less of two numbers, as the code finds it
pub least_is : (n a b : ℕ) → n ≡ ord_min nat_cmp a b → n ≡ min a b
least_is n a b h = grind (arith, h)

module _ {X : Type 0} (xs middle : List X) (m start len : ℕ) (is : middle ≡ take len (drop start xs)) where
  -- a slice, and what is left behind it
  pub slice_front : drop start xs ≡ middle ++ drop (start + len) xs
  slice_front = sym (take-append-drop len (drop start xs)) ∙ ap₂ (λ (a b : List X). a ++ b) (sym is) (drop-drop len start xs)

  -- it is as long as it is cut
  pub slice_long : start + len ≤ length xs → length middle ≡ len
  slice_long inside = omega (arith, ap length is, inside, length-drop start xs, length-take len (drop start xs))

  pub slice_is_run : start < length xs → len ≡ min m (length xs - start) → length middle ≡ min m (length (middle ++ drop (start + len) xs))
  slice_is_run inside cut =
      omega (arith, cut, inside, slice_long (omega (arith, cut, inside)), ap length slice_front, length-drop start xs)
