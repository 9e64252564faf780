-- Lists place by place.
use Rattle.std.proofs.Common.{◌≡◌, ◌<◌, ◌+◌, ℕ, zero, suc, Bool, true, false, cond, List, [], ◌∷◌, ◌++◌, length, take, map, replicate, get_or, Result, Ok, Err, OnOk, refl, sym, ap, ap₂, ◌∙◌, arith, add-one}
use Rattle.std.specs.Simd.Lanes.{zip2, sel_l}
use Rattle.std.proofs.lemmas.List.{take_more, map-append, get_or-replicate}

zipped_more : {A B C : Type 0} (f : A → B → C) (xs : List A) (ys : List B) (i : ℕ) (d : A) (e : B) → i < length xs → i < length ys
    → zip2 f (take (suc i) xs) (take (suc i) ys) ≡ zip2 f (take i xs) (take i ys) ++ f (get_or xs i d) (get_or ys i e) ∷ []
zipped_more f [] ys i d e h g = absurd (omega arith)
zipped_more f (x ∷ xs) [] i d e h g = absurd (omega arith)
zipped_more f (x ∷ xs) (y ∷ ys) zero d e h g = refl
zipped_more f (x ∷ xs) (y ∷ ys) (suc i) d e h g = ap (λ rest. f x y ∷ rest) (zipped_more f xs ys i d e (omega arith) (omega arith))

-- one more place of two lists
pub zip2_more : {A B C : Type 0} (f : A → B → C) (xs : List A) (ys : List B) (i : ℕ) (d : A) (e : B) → i < length xs → i < length ys
    → zip2 f (take (i + 1) xs) (take (i + 1) ys) ≡ zip2 f (take i xs) (take i ys) ++ f (get_or xs i d) (get_or ys i e) ∷ []
zip2_more f xs ys i d e h g = simp add-one (zipped_more f xs ys i d e h g)

-- one more place of a list
pub map_more : {A B : Type 0} (f : A → B) (xs : List A) (i : ℕ) (d : A) → i < length xs → map f (take (i + 1) xs) ≡ map f (take i xs) ++ f (get_or xs i d) ∷ []
map_more f xs i d h = ap (map f) (take_more xs i d h) ∙ map-append f (take i xs) (get_or xs i d ∷ [])

selected_more : {A : Type 0} (mask : List Bool) (xs ys : List A) (i : ℕ) (d : A) → i < length mask → i < length xs → i < length ys
    → sel_l (take (suc i) mask) (take (suc i) xs) (take (suc i) ys) ≡ sel_l (take i mask) (take i xs) (take i ys) ++ cond (get_or mask i false) (get_or xs i d) (get_or ys i d) ∷ []
selected_more [] xs ys i d h g k = absurd (omega arith)
selected_more (m ∷ mask) [] ys i d h g k = absurd (omega arith)
selected_more (m ∷ mask) (x ∷ xs) [] i d h g k = absurd (omega arith)
selected_more (m ∷ mask) (x ∷ xs) (y ∷ ys) zero d h g k = refl
selected_more (m ∷ mask) (x ∷ xs) (y ∷ ys) (suc i) d h g k = ap (λ rest. cond m x y ∷ rest) (selected_more mask xs ys i d (omega arith) (omega arith) (omega arith))

-- one more place of a choice
pub sel_more : {A : Type 0} (mask : List Bool) (xs ys : List A) (i : ℕ) (d : A) → i < length mask → i < length xs → i < length ys
    → sel_l (take (i + 1) mask) (take (i + 1) xs) (take (i + 1) ys) ≡ sel_l (take i mask) (take i xs) (take i ys) ++ cond (get_or mask i false) (get_or xs i d) (get_or ys i d) ∷ []
sel_more mask xs ys i d h g k = simp add-one (selected_more mask xs ys i d h g k)

-- a step of a loop over two lists
pub zip2_step : {A B C : Type 0} (f : A → B → C) (xs : List A) (ys : List B) (so_far new : List C) (i : ℕ) (x : A) (y : B) (z : C) → length ys ≡ length xs → i < length xs
    → so_far ≡ zip2 f (take i xs) (take i ys) → x ≡ get_or xs i x → y ≡ get_or ys i y → z ≡ f x y → new ≡ so_far ++ z ∷ [] → new ≡ zip2 f (take (i + 1) xs) (take (i + 1) ys)
zip2_step f xs ys so_far new i x y z long within before here there made pushed =
    pushed ∙ ap₂ (λ front b. front ++ b ∷ []) before (made ∙ ap₂ f here there) ∙ sym (zip2_more f xs ys i x y within (omega arith))

-- a step of a loop over a list
pub map_step : {A B : Type 0} (f : A → B) (xs : List A) (so_far new : List B) (i : ℕ) (x : A) (z : B) → i < length xs
    → so_far ≡ map f (take i xs) → x ≡ get_or xs i x → z ≡ f x → new ≡ so_far ++ z ∷ [] → new ≡ map f (take (i + 1) xs)
map_step f xs so_far new i x z within before here made pushed =
    pushed ∙ ap₂ (λ front b. front ++ b ∷ []) before (made ∙ ap f here) ∙ sym (map_more f xs i x within)

-- a step of a choice that takes the first side's item
pub sel_step_true : {A : Type 0} (mask : List Bool) (xs ys so_far new : List A) (i : ℕ) → length xs ≡ length mask → length ys ≡ length mask → i < length mask
    → so_far ≡ sel_l (take i mask) (take i xs) (take i ys) → get_or mask i false ≡ true → ((d : A) → new ≡ so_far ++ get_or xs i d ∷ []) → new ≡ sel_l (take (i + 1) mask) (take (i + 1) xs) (take (i + 1) ys)
sel_step_true mask [] ys so_far new i first second within before set pushed = absurd (omega arith)
sel_step_true mask (x ∷ xs) ys so_far new i first second within before set pushed =
    pushed x ∙ ap₂ (λ front y. front ++ y ∷ []) before (ap (λ b. cond b (get_or (x ∷ xs) i x) (get_or ys i x)) (sym set)) ∙ sym (sel_more mask (x ∷ xs) ys i x within (omega arith) (omega arith))

-- a step of a choice that takes the second side's item
pub sel_step_false : {A : Type 0} (mask : List Bool) (xs ys so_far new : List A) (i : ℕ) → length xs ≡ length mask → length ys ≡ length mask → i < length mask
    → so_far ≡ sel_l (take i mask) (take i xs) (take i ys) → get_or mask i false ≡ false → ((d : A) → new ≡ so_far ++ get_or ys i d ∷ []) → new ≡ sel_l (take (i + 1) mask) (take (i + 1) xs) (take (i + 1) ys)
sel_step_false mask xs [] so_far new i first second within before unset pushed = absurd (omega arith)
sel_step_false mask xs (y ∷ ys) so_far new i first second within before unset pushed =
    pushed y ∙ ap₂ (λ front x. front ++ x ∷ []) before (ap (λ b. cond b (get_or xs i y) (get_or (y ∷ ys) i y)) (sym unset)) ∙ sym (sel_more mask xs (y ∷ ys) i y within (omega arith) (omega arith))

-- an item of copies of one
pub pushed_repeated : {A R E : Type 0} (r : Result R E) (old new : List A) (n i : ℕ) (x : A) → i < n → OnOk r (new ≡ old ++ x ∷ []) → OnOk r ((d : A) → new ≡ old ++ get_or (replicate n x) i d ∷ [])
pushed_repeated (Err e) old new n i x h done = done
pushed_repeated (Ok a) old new n i x h done = λ d. done ∙ ap (λ y. old ++ y ∷ []) (sym (get_or-replicate n i x d h))
