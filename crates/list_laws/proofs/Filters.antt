-- Lists by the items that pass a test: filters one after the other, and of maps.
use Rattle.std.proofs.Common.{◌≡◌, Bool, true, false, ◌&&◌, cond, List, [], ◌∷◌, ◌++◌, map, filter, flat_map, refl, ap, ap₂, ◌∙◌, inl, inr}
use Rattle.std.specs.List.{list_any}
use Rattle.std.proofs.lemmas.Bool.{cases_Bool, or_parts}
use Rattle.std.proofs.lemmas.List.Elements.{filter-append}
use Rattle.list_laws.specs.Each.{Each}
use Rattle.list_laws.proofs.Each.{Each-all}

-- no item passes
pub filter-none : {A : Type 0} (t : A → Bool) → ((a : A) → t a ≡ false) → (xs : List A) → filter t xs ≡ []
filter-none t h [] = refl
filter-none t h (x ∷ xs) = rw (h x) (filter-none t h xs)

-- each item passes
pub filter-all : {A : Type 0} (t : A → Bool) → ((a : A) → t a ≡ true) → (xs : List A) → filter t xs ≡ xs
filter-all t h [] = refl
filter-all {A} t h (x ∷ xs) = rw (h x) (ap (λ (r : List A). x ∷ r) (filter-all t h xs))

-- a test of what a function gives
pub filter-map : {A B : Type 0} (t : B → Bool) (f : A → B) (xs : List A) → filter t (map f xs) ≡ map f (filter (λ x. t (f x)) xs)
filter-map t f [] = refl
filter-map {A} {B} t f (x ∷ xs) = elim (t (f x)) as (λ v. cond v (f x ∷ filter t (map f xs)) (filter t (map f xs)) ≡ map f (cond v (x ∷ filter (λ y. t (f y)) xs) (filter (λ y. t (f y)) xs))) [
  | true ↦ ap (λ (r : List B). f x ∷ r) (filter-map t f xs)
  | false ↦ filter-map t f xs
]

pub filter_and : {X : Type 0} (p q : X → Bool) (xs : List X) → filter p (filter q xs) ≡ filter (λ x. q x && p x) xs
filter_and p q [] = refl
filter_and p q (x ∷ xs) = elim (q x) as (λ v. filter p (cond v (x ∷ filter q xs) (filter q xs)) ≡ cond (v && p x) (x ∷ filter (λ x. q x && p x) xs) (filter (λ x. q x && p x) xs)) [
  | true ↦ ap (λ t. cond (p x) (x ∷ t) t) (filter_and p q xs)
  | false ↦ filter_and p q xs
]

pub filter_same : {X : Type 0} (p q : X → Bool) (xs : List X) → Each (λ x. p x ≡ q x) xs → filter p xs ≡ filter q xs
filter_same p q [] h = refl
filter_same p q (x ∷ xs) h = ap₂ (λ b t. cond b (x ∷ t) t) h.0 (filter_same p q xs h.1)

pub filter-Each : {X : Type 0} (p : X → Bool) (xs : List X) → Each (λ x. p x ≡ true) xs → filter p xs ≡ xs
filter-Each p [] h = refl
filter-Each p (x ∷ xs) h = rw h.0 (ap (λ t. x ∷ t) (filter-Each p xs h.1))

-- a test that implies another
pub filter_implied : {X : Type 0} (p q : X → Bool) → ((x : X) → q x ≡ true → p x ≡ true) → (xs : List X) → filter q (filter p xs) ≡ filter q xs
filter_implied p q h xs = filter_and q p xs ∙ filter_same (λ x. p x && q x) q xs (Each-all _ xs (λ x. elim (cases_Bool (q x)) [
  | inl e ↦ rw (e, h x e) refl
  | inr e ↦ rw e (and_false (p x))
]))
  where
    and_false : (b : Bool) → (b && false) ≡ false
    and_false true = refl
    and_false false = refl

pub filter-flat_map : {A B : Type 0} (p : B → Bool) (f : A → List B) (xs : List A) → filter p (flat_map f xs) ≡ flat_map (λ x. filter p (f x)) xs
filter-flat_map p f [] = refl
filter-flat_map p f (x ∷ xs) = filter-append p (f x) (flat_map f xs) ∙ ap (λ t. filter p (f x) ++ t) (filter-flat_map p f xs)

pub filter-absent : {X : Type 0} (p : X → Bool) (xs : List X) → list_any p xs ≡ false → filter p xs ≡ []
filter-absent p [] h = refl
filter-absent p (x ∷ xs) h =
    let both = or_parts (p x) (list_any p xs) h in
    rw both.0 (filter-absent p xs both.1)
