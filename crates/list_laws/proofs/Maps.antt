-- Maps by functions that agree, over lists of lists, and over the places of a list.
use Rattle.std.proofs.Common.{◌≡◌, ℕ, Bool, zero, suc, ◌<◌, List, [], ◌∷◌, ◌++◌, map, filter, flat_map, length, get_or, refl, sym, ap, ap₂, ◌∙◌, arith}
use Rattle.std.specs.List.{range_with_len}
use Rattle.std.proofs.lemmas.List.{map-append}
use Rattle.std.proofs.lemmas.List.Concat.{flat_map-append}
use Rattle.std.proofs.lemmas.List.FromFn.{fill_by_all}
use mathlib.Core.List.{map-map}
use Rattle.list_laws.specs.Each.{Each}
use Rattle.list_laws.proofs.Filters.{filter-map}

-- everywhere
pub map_agree : {A B : Type 0} (f g : A → B) → ((a : A) → f a ≡ g a) → (xs : List A) → map f xs ≡ map g xs
map_agree f g h [] = refl
map_agree f g h (x ∷ xs) = cc (h x, map_agree f g h xs)

-- on the items of the list
pub map_agree_on : {A B : Type 0} (f g : A → B) (xs : List A) → ((k : ℕ) (d : A) → k < length xs → f (get_or xs k d) ≡ g (get_or xs k d)) → map f xs ≡ map g xs
map_agree_on f g [] h = refl
map_agree_on f g (x ∷ xs) h = cc (h 0 x (omega arith), map_agree_on f g xs (λ k d l. h (suc k) d (omega arith)))

pub map-flat_map : {A B C : Type 0} (g : B → C) (f : A → List B) (xs : List A) → map g (flat_map f xs) ≡ flat_map (λ x. map g (f x)) xs
map-flat_map g f [] = refl
map-flat_map g f (x ∷ xs) = map-append g (f x) (flat_map f xs) ∙ ap (λ t. map g (f x) ++ t) (map-flat_map g f xs)

pub flat_map_agree : {A B : Type 0} (f g : A → List B) → ((a : A) → f a ≡ g a) → (xs : List A) → flat_map f xs ≡ flat_map g xs
flat_map_agree f g h [] = refl
flat_map_agree f g h (x ∷ xs) = ap₂ (λ a b. a ++ b) (h x) (flat_map_agree f g h xs)

pub flat_map_same : {A B : Type 0} (f g : A → List B) (xs : List A) → Each (λ a. f a ≡ g a) xs → flat_map f xs ≡ flat_map g xs
flat_map_same f g [] h = refl
flat_map_same f g (x ∷ xs) h = ap₂ (λ a b. a ++ b) h.0 (flat_map_same f g xs h.1)

pub flat_map-flat_map : {A B C : Type 0} (g : B → List C) (f : A → List B) (xs : List A) → flat_map g (flat_map f xs) ≡ flat_map (λ x. flat_map g (f x)) xs
flat_map-flat_map g f [] = refl
flat_map-flat_map g f (x ∷ xs) = flat_map-append g (f x) (flat_map f xs) ∙ ap (λ t. flat_map g (f x) ++ t) (flat_map-flat_map g f xs)

pub get_or_map_all : {A B : Type 0} (f : A → B) (xs : List A) (i : ℕ) (d : A) → get_or (map f xs) i (f d) ≡ f (get_or xs i d)
get_or_map_all f [] i d = refl
get_or_map_all f (x ∷ xs) zero d = refl
get_or_map_all f (x ∷ xs) (suc i) d = get_or_map_all f xs i d

pub read_all : {X : Type 0} (xs : List X) (d : X) → map (λ j. get_or xs j d) (range_with_len 0 (length xs)) ≡ xs
read_all xs d = sym (fill_by_all (λ j. get_or xs j d) xs (length xs) d refl (λ k h. refl))

-- the places of a list that pass a test, by their places in it
pub picked : {B : Type 0} (ds : List ℕ) (p : ℕ → Bool) (h : ℕ → B) → map (λ j. h (get_or ds j 0)) (filter (λ j. p (get_or ds j 0)) (range_with_len 0 (length ds))) ≡ map h (filter p ds)
picked ds p h =
    sym (map-map h (λ j. get_or ds j 0) (filter (λ j. p (get_or ds j 0)) (range_with_len 0 (length ds))))
    ∙ ap (map h) (sym (filter-map p (λ j. get_or ds j 0) (range_with_len 0 (length ds))))
    ∙ ap (λ t. map h (filter p t)) (read_all ds 0)

-- what passes of what is made from a list, and its second part
pub made : {A Q B : Type 0} (c : ℕ → Q × A) (q : Q → Bool) (g : A → B) (js : List ℕ) → map g (map (λ e. e.1) (filter (λ e. q e.0) (map c js))) ≡ map (λ j. g (c j).1) (filter (λ j. q (c j).0) js)
made {A} {Q} c q g js =
    ap (λ t. map g (map (λ (e : Q × A). e.1) t)) (filter-map (λ e. q e.0) c js)
    ∙ ap (map g) (map-map (λ (e : Q × A). e.1) c (filter (λ j. q (c j).0) js))
    ∙ map-map g (λ j. (c j).1) (filter (λ j. q (c j).0) js)
