-- What holds of the items of a list, place by place.
use Rattle.std.proofs.Common.{◌≡◌, ℕ, zero, suc, ◌+◌, ◌<◌, List, [], ◌∷◌, ◌++◌, length, take, drop, get_or, slice_get, IsSomeAnd, refl, sym, ap, subst, ◌∙◌, inl, inr, arith, add-one}
use Rattle.std.proofs.Math.ListN.{set}
use Rattle.std.proofs.lemmas.Bool.{cases_eq}
use Rattle.std.proofs.lemmas.List.{drop_more}
use Rattle.std.specs.List.{zip}

-- what holds of the item at a place
pub at_place : {A : Type 0} (xs : List A) (i : ℕ) (x : A) (P : A → Type 0) → IsSomeAnd (slice_get xs i) P → x ≡ get_or xs i x → P x
at_place [] i x P h e = absurd h
at_place (y ∷ ys) zero x P h e = subst P (sym e) h
at_place (y ∷ ys) (suc i) x P h e = at_place ys i x P h e

same_place : {A : Type 0} (P Q : A → Type 0) (xs : List A) (p : ℕ) → IsSomeAnd (slice_get xs p) P → ((y : A) → P y → Q y) → IsSomeAnd (slice_get xs p) Q
same_place P Q [] p h f = h
same_place P Q (y ∷ ys) zero h f = f y h
same_place P Q (y ∷ ys) (suc p) h f = same_place P Q ys p h f

set_here : {A : Type 0} (P Q : A → Type 0) (xs : List A) (i : ℕ) (x : A) → IsSomeAnd (slice_get xs i) P → Q x → IsSomeAnd (slice_get (set xs i x) i) Q
set_here P Q [] i x h q = h
set_here P Q (y ∷ ys) zero x h q = q
set_here P Q (y ∷ ys) (suc i) x h q = set_here P Q ys i x h q

set_other : {A : Type 0} (P Q : A → Type 0) (xs : List A) (i p : ℕ) (x : A) → (p ≡ i → ⊥) → IsSomeAnd (slice_get xs p) P → ((y : A) → P y → Q y) → IsSomeAnd (slice_get (set xs i x) p) Q
set_other P Q [] i p x n h f = h
set_other P Q (y ∷ ys) zero zero x n h f = absurd (n refl)
set_other P Q (y ∷ ys) zero (suc p) x n h f = same_place P Q ys p h f
set_other P Q (y ∷ ys) (suc i) zero x n h f = f y h
set_other P Q (y ∷ ys) (suc i) (suc p) x n h f = set_other P Q ys i p x (λ e. n (ap suc e)) h f

-- an item is written at a place, and what held at every place holds on
pub each_set : {A : Type 0} (n : ℕ) (xs : List A) (g : ℕ) (x : A) (P Q : ℕ → A → Type 0) → ((p : ℕ) → p < n → IsSomeAnd (slice_get xs p) (P p)) → Q g x → ((p : ℕ) → (p ≡ g → ⊥) → (y : A) → P p y → Q p y) → (p : ℕ) → p < n → IsSomeAnd (slice_get (set xs g x) p) (Q p)
each_set n xs g x P Q h q f p lt = elim (cases_eq p g) [
  | inl e ↦ subst (λ k. IsSomeAnd (slice_get (set xs k x) p) (Q p)) e (set_here (P p) (Q p) xs p x (h p lt) (subst (λ k. Q k x) (sym e) q))
  | inr ne ↦ set_other (P p) (Q p) xs g p x ne (h p lt) (f p ne)
]

-- the first of what is left of a list
pub next_is : {A : Type 0} (xs : List A) (i : ℕ) (x : A) (rest : List A) → i < length xs → x ∷ rest ≡ drop i xs → (x ≡ get_or xs i x) × (rest ≡ drop (i + 1) xs)
next_is {A} xs i x rest h e =
    let both : x ∷ rest ≡ get_or xs i x ∷ drop (i + 1) xs = e ∙ drop_more xs i x h in
    (cc, cc)

zip_suc : {A B : Type 0} (xs : List A) (ys : List B) (i : ℕ) (d : A) (e : B) → i < length xs → i < length ys → zip (take (suc i) xs) (take (suc i) ys) ≡ zip (take i xs) (take i ys) ++ (get_or xs i d, get_or ys i e) ∷ []
zip_suc [] ys i d e h k = absurd (omega arith)
zip_suc (x ∷ xs) [] i d e h k = absurd (omega arith)
zip_suc (x ∷ xs) (y ∷ ys) zero d e h k = refl
zip_suc {A} {B} (x ∷ xs) (y ∷ ys) (suc i) d e h k = ap (λ (zs : List (A × B)). (x, y) ∷ zs) (zip_suc xs ys i d e (omega arith) (omega arith))

pub zip_more : {A B : Type 0} (xs : List A) (ys : List B) (i : ℕ) (d : A) (e : B) → i < length xs → i < length ys → zip (take (i + 1) xs) (take (i + 1) ys) ≡ zip (take i xs) (take i ys) ++ (get_or xs i d, get_or ys i e) ∷ []
zip_more xs ys i d e h k = rw (add-one i) (zip_suc xs ys i d e h k)

-- what holds of the pair at a place
pub zip_at : {A B : Type 0} (xs : List A) (ys : List B) (p : ℕ) (P : A → Type 0) (Q : B → Type 0) → IsSomeAnd (slice_get xs p) P → IsSomeAnd (slice_get ys p) Q → IsSomeAnd (slice_get (zip xs ys) p) (λ z. P z.0 × Q z.1)
zip_at [] ys p P Q h k = h
zip_at (x ∷ xs) [] p P Q h k = k
zip_at (x ∷ xs) (y ∷ ys) zero P Q h k = (h, k)
zip_at (x ∷ xs) (y ∷ ys) (suc p) P Q h k = zip_at xs ys p P Q h k

pub length-zip : {A B : Type 0} (xs : List A) (ys : List B) → length ys ≡ length xs → length (zip xs ys) ≡ length xs
length-zip [] ys e = refl
length-zip (x ∷ xs) [] e = absurd (omega arith)
length-zip (x ∷ xs) (y ∷ ys) e = ap suc (length-zip xs ys (omega arith))
