-- How many positions the rows of a partition take.
use Rattle.std.proofs.Common.{◌≡◌, ℕ, zero, suc, ◌≤◌, eqb, cond, List, [], ◌∷◌, filter, flat_map, length, get_or, refl, ◌∙◌, inl, inr, arith}
use Rattle.std.proofs.lemmas.Bool.{cases_Bool}
use Rattle.std.proofs.lemmas.List.{length-append}
use Rattle.std.proofs.lemmas.List.Sums.{sum_by-cons}
use Rattle.hash_keys.specs.Gathered.{count_in}
use Rattle.list_laws.specs.Each.{Each}
use Rattle.join_laws.specs.declared.Pair.{Pair}

-- as many as what these rows give, where each takes as many as it gives
pub count_given : (part count : ℕ → ℕ) (g : ℕ → List Pair) (p : ℕ) (is : List ℕ) → Each (λ i. count i ≡ length (g i)) is → count_in part count p is ≡ length (flat_map g (filter (λ i. eqb (part i) p) is))
count_given part count g p [] h = refl
count_given part count g p (i ∷ is) h =
    let c = sum_by-cons (λ j. cond (eqb (part j) p) (count j) 0) i is in
    let r = count_given part count g p is h.1 in
    elim (cases_Bool (eqb (part i) p)) [
      | inl yes' ↦ c ∙ rw yes' (let a = length-append (g i) (flat_map g (filter (λ j. eqb (part j) p) is)) in let e = h.0 in omega arith)
      | inr no' ↦ c ∙ rw no' (omega (arith, r))
    ]

-- one list of many is no longer than all of them
pub piece_short : {X : Type 0} (lists : List (List X)) (p : ℕ) → length (get_or lists p []) ≤ length (flat_map (λ l. l) lists)
piece_short [] p = omega arith
piece_short (l ∷ ls) zero = let a = length-append l (flat_map (λ l. l) ls) in omega arith
piece_short (l ∷ ls) (suc p) = let a = length-append l (flat_map (λ l. l) ls) in let r = piece_short ls p in omega arith
