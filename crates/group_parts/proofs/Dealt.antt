-- The items of a part, as more and more of a list is dealt.
use Rattle.std.proofs.Common.{◌≡◌, ℕ, zero, suc, ◌+◌, ◌<◌, ◌≤◌, ◌==◌, Bool, true, false, if◌then◌else◌, cond, List, [], ◌∷◌, ◌++◌, length, take, get_or, count_by, refl, sym, ap, ◌∙◌, arith, add-one}
use Rattle.std.proofs.lemmas.Bool.{eq-eqb, ne_eqb}
use Rattle.std.proofs.lemmas.List.{append-nil, length-take-le}
use Rattle.std.proofs.lemmas.List.Sums.{count_by_more_yes, sum_by-cons, sum_by-take-le}
use Rattle.group_parts.specs.Parts.{dealt}

dealt_suc : {A : Type 0} (p : ℕ) (is : List ℕ) (xs : List A) (i : ℕ) (d : A) → i < length is → i < length xs → dealt p (take (suc i) is) (take (suc i) xs) ≡ dealt p (take i is) (take i xs) ++ (if get_or is i 0 == p then get_or xs i d ∷ [] else [])
dealt_suc p [] xs i d h k = absurd (omega arith)
dealt_suc p (q ∷ is) [] i d h k = absurd (omega arith)
dealt_suc p (q ∷ is) (x ∷ xs) zero d h k = refl
dealt_suc {A} p (q ∷ is) (x ∷ xs) (suc i) d h k =
    let rest : List A = if get_or is i 0 == p then get_or xs i d ∷ [] else [] in
    let now : List A = dealt p (take i is) (take i xs) in
    let more : List A = dealt p (take (suc i) is) (take (suc i) xs) in
    let ih : more ≡ now ++ rest = dealt_suc p is xs i d (omega arith) (omega arith) in
    elim (q == p) as (λ b. (if b then x ∷ more else more) ≡ (if b then x ∷ now else now) ++ rest) [ true ↦ ap (λ (zs : List A). x ∷ zs) ih | false ↦ ih ]

-- one more item, of this part
pub dealt_yes : {A : Type 0} (p : ℕ) (is : List ℕ) (xs : List A) (i : ℕ) (d : A) → i < length is → i < length xs → get_or is i 0 ≡ p → dealt p (take (i + 1) is) (take (i + 1) xs) ≡ dealt p (take i is) (take i xs) ++ get_or xs i d ∷ []
dealt_yes {A} p is xs i d h k e = rw (add-one i) (dealt_suc p is xs i d h k ∙ ap (λ (b : Bool). dealt p (take i is) (take i xs) ++ (if b then get_or xs i d ∷ [] else [])) (eq-eqb (get_or is i 0) p e))

-- one more item, of another part
pub dealt_no : {A : Type 0} (p : ℕ) (is : List ℕ) (xs : List A) (i : ℕ) (d : A) → i < length is → i < length xs → (get_or is i 0 ≡ p → ⊥) → dealt p (take (i + 1) is) (take (i + 1) xs) ≡ dealt p (take i is) (take i xs)
dealt_no {A} p is xs i d h k e = rw (add-one i) (dealt_suc p is xs i d h k ∙ ap (λ (b : Bool). dealt p (take i is) (take i xs) ++ (if b then get_or xs i d ∷ [] else [])) (ne_eqb (get_or is i 0) p e) ∙ append-nil (dealt p (take i is) (take i xs)))

pub length-dealt : {A : Type 0} (p : ℕ) (is : List ℕ) (xs : List A) → length is ≡ length xs → length (dealt p is xs) ≡ count_by (λ j. j == p) is
length-dealt p [] xs e = refl
length-dealt p (q ∷ is) [] e = absurd (omega arith)
length-dealt {A} p (q ∷ is) (x ∷ xs) e =
    let ih : length (dealt p is xs) ≡ count_by (λ j. j == p) is = length-dealt p is xs (omega arith) in
    let here : length (if q == p then x ∷ dealt p is xs else dealt p is xs) ≡ cond (q == p) 1 0 + count_by (λ j. j == p) is =
    elim (q == p) as (λ b. length (if b then x ∷ dealt p is xs else dealt p is xs) ≡ cond b 1 0 + count_by (λ j. j == p) is) [ true ↦ omega (arith, ih) | false ↦ omega (arith, ih) ] in
    here ∙ sym (sum_by-cons (λ j. cond (j == p) 1 0) q is)

-- a part has not yet all its items while one of them is left
pub length-dealt-lt : {A : Type 0} (p : ℕ) (is : List ℕ) (xs : List A) (i : ℕ) → length is ≡ length xs → i < length is → get_or is i 0 ≡ p → length (dealt p (take i is) (take i xs)) < count_by (λ j. j == p) is
length-dealt-lt p is xs i e h same =
    let here : length (dealt p (take i is) (take i xs)) ≡ count_by (λ j. j == p) (take i is) = length-dealt p (take i is) (take i xs) (length-take-le i is (omega arith) ∙ sym (length-take-le i xs (omega arith))) in
    let more : count_by (λ j. j == p) (take (i + 1) is) ≡ count_by (λ j. j == p) (take i is) + 1 = count_by_more_yes (λ j. j == p) is i 0 h (eq-eqb (get_or is i 0) p same) in
    let within : count_by (λ j. j == p) (take (i + 1) is) ≤ count_by (λ j. j == p) is = sum_by-take-le (λ j. cond (j == p) 1 0) is (i + 1) in
    omega (arith, here, more, within)
