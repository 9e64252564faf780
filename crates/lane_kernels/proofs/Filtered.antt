-- Items whose mask bit is set.
use Rattle.std.proofs.Common.{◌≡◌, ℕ, zero, suc, ◌+◌, ◌*◌, ◌^◌, ◌<◌, ◌≤◌, Bool, true, false, cond, List, [], ◌∷◌, ◌++◌, length, take, drop, get_or, refl, sym, ap, ap₂, ◌∙◌, arith, add-one}
use Rattle.std.proofs.Math.Nat.{pow-suc}
use Rattle.std.specs.List.{count_by}
use Rattle.std.specs.Simd.Lanes.{mask_l}
use Rattle.std.proofs.lemmas.List.{append_assoc}
use Rattle.std.proofs.lemmas.List.Sums.{count_by_more_yes, count_by_more_no, sum_by-cons}
use Rattle.lane_kernels.specs.Positions.{filtered}

-- one more item whose bit is set
kept_more : {A : Type 0} (xs : List A) (mask : List Bool) (i : ℕ) (d : A) → i < length xs → i < length mask → get_or mask i false ≡ true
    → filtered (take (suc i) xs) (take (suc i) mask) ≡ filtered (take i xs) (take i mask) ++ get_or xs i d ∷ []
kept_more [] mask i d h g e = absurd (omega arith)
kept_more (x ∷ xs) [] i d h g e = absurd (omega arith)
kept_more (x ∷ xs) (m ∷ mask) zero d h g e = ap (λ b. cond b (x ∷ []) []) e
kept_more (x ∷ xs) (true ∷ mask) (suc i) d h g e = ap (λ rest. x ∷ rest) (kept_more xs mask i d (omega arith) (omega arith) e)
kept_more (x ∷ xs) (false ∷ mask) (suc i) d h g e = kept_more xs mask i d (omega arith) (omega arith) e

pub filtered_more_yes : {A : Type 0} (xs : List A) (mask : List Bool) (i : ℕ) (d : A) → i < length xs → i < length mask → get_or mask i false ≡ true
    → filtered (take (i + 1) xs) (take (i + 1) mask) ≡ filtered (take i xs) (take i mask) ++ get_or xs i d ∷ []
filtered_more_yes xs mask i d h g e = simp add-one (kept_more xs mask i d h g e)

-- one more item whose bit is not set
dropped_more : {A : Type 0} (xs : List A) (mask : List Bool) (i : ℕ) → i < length xs → i < length mask → get_or mask i false ≡ false
    → filtered (take (suc i) xs) (take (suc i) mask) ≡ filtered (take i xs) (take i mask)
dropped_more [] mask i h g e = absurd (omega arith)
dropped_more (x ∷ xs) [] i h g e = absurd (omega arith)
dropped_more (x ∷ xs) (m ∷ mask) zero h g e = ap (λ b. cond b (x ∷ []) []) e
dropped_more (x ∷ xs) (true ∷ mask) (suc i) h g e = ap (λ rest. x ∷ rest) (dropped_more xs mask i (omega arith) (omega arith) e)
dropped_more (x ∷ xs) (false ∷ mask) (suc i) h g e = dropped_more xs mask i (omega arith) (omega arith) e

pub filtered_more_no : {A : Type 0} (xs : List A) (mask : List Bool) (i : ℕ) → i < length xs → i < length mask → get_or mask i false ≡ false
    → filtered (take (i + 1) xs) (take (i + 1) mask) ≡ filtered (take i xs) (take i mask)
filtered_more_no xs mask i h g e = simp add-one (dropped_more xs mask i h g e)

-- as many as there are set bits
pub length-filtered : {A : Type 0} (xs : List A) (mask : List Bool) → length mask ≡ length xs → length (filtered xs mask) ≡ count_by (λ bit. bit) mask
length-filtered [] [] h = refl
length-filtered [] (m ∷ mask) h = absurd (omega arith)
length-filtered (x ∷ xs) [] h = absurd (omega arith)
length-filtered (x ∷ xs) (true ∷ mask) h = omega (arith, sum_by-cons (λ b. cond b 1 0) true mask, length-filtered xs mask (omega arith))
length-filtered (x ∷ xs) (false ∷ mask) h = omega (arith, sum_by-cons (λ b. cond b 1 0) false mask, length-filtered xs mask (omega arith))

-- where the bits before a place are all that are set, the items before it are all
pub filtered_all : {A : Type 0} (xs : List A) (mask : List Bool) (i : ℕ) → count_by (λ bit. bit) (take i mask) ≡ count_by (λ bit. bit) mask → filtered (take i xs) (take i mask) ≡ filtered xs mask
filtered_all [] mask zero h = refl
filtered_all [] [] (suc i) h = refl
filtered_all [] (m ∷ mask) (suc i) h = refl
filtered_all (x ∷ xs) [] zero h = refl
filtered_all (x ∷ xs) [] (suc i) h = refl
filtered_all (x ∷ xs) (true ∷ mask) zero h = absurd (omega (arith, sum_by-cons (λ b. cond b 1 0) true mask))
filtered_all (x ∷ xs) (false ∷ mask) zero h = filtered_all xs mask zero (omega (arith, sum_by-cons (λ b. cond b 1 0) false mask))
filtered_all (x ∷ xs) (true ∷ mask) (suc i) h = ap (λ rest. x ∷ rest) (filtered_all xs mask i (omega (arith, sum_by-cons (λ b. cond b 1 0) true mask, sum_by-cons (λ b. cond b 1 0) true (take i mask))))
filtered_all (x ∷ xs) (false ∷ mask) (suc i) h = filtered_all xs mask i (omega (arith, sum_by-cons (λ b. cond b 1 0) false mask, sum_by-cons (λ b. cond b 1 0) false (take i mask)))

-- a bit on top of a word
pub word-push : (bits : List Bool) (b : Bool) → mask_l (bits ++ b ∷ []) ≡ mask_l bits + 2 ^ length bits * cond b 1 0
word-push [] true = refl
word-push [] false = refl
word-push (c ∷ bits) true = omega (arith, word-push bits true, pow-suc 2 (length bits))
word-push (c ∷ bits) false = omega (arith, word-push bits false)

-- a step that keeps an item
pub kept_step : {A : Type 0} (xs : List A) (mask : List Bool) (old so_far new : List A) (i : ℕ) (d x : A) → length mask ≡ length xs → i < length xs
    → so_far ≡ old ++ filtered (take i xs) (take i mask) → x ≡ get_or xs i d → get_or mask i false ≡ true → new ≡ so_far ++ x ∷ [] → new ≡ old ++ filtered (take (i + 1) xs) (take (i + 1) mask)
kept_step xs mask old so_far new i d x long within before here set pushed =
    let front = filtered (take i xs) (take i mask) in
    pushed ∙ ap (λ all. all ++ x ∷ []) before ∙ append_assoc old front (x ∷ [])
    ∙ ap (λ rest. old ++ rest) (ap (λ y. front ++ y ∷ []) here ∙ sym (filtered_more_yes xs mask i d within (omega arith) set))

-- a step that drops an item
pub dropped_step : {A : Type 0} (xs : List A) (mask : List Bool) (old so_far : List A) (i : ℕ) → length mask ≡ length xs → i < length xs
    → so_far ≡ old ++ filtered (take i xs) (take i mask) → get_or mask i false ≡ false → so_far ≡ old ++ filtered (take (i + 1) xs) (take (i + 1) mask)
dropped_step xs mask old so_far i long within before unset = before ∙ ap (λ rest. old ++ rest) (sym (filtered_more_no xs mask i within (omega arith) unset))
