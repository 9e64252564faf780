-- What holds of the items of two lists, place by place: facts joined, and lists by a map.
use Rattle.std.proofs.Common.{◌≡◌, ℕ, zero, suc, ◌+◌, ◌<◌, List, [], ◌∷◌, ◌++◌, map, length, get_or, refl, sym, ap, ap₂, ◌∙◌, subst, append_assoc, arith}
use Rattle.std.proofs.lemmas.List.{get_or-map, length-append, length-map}
use Rattle.list_laws.specs.Each.{Each}
use Rattle.list_laws.specs.Places.{PairsFrom, At}

module _ {X Y : Type 0} where
  -- two facts of the same items
  pub pairs_both : (P Q S : ℕ → X → Y → Type 0) → ((i : ℕ) (x : X) (y : Y) → P i x y → Q i x y → S i x y) → (n : ℕ) (xs : List X) (ys : List Y) → PairsFrom P n xs ys → PairsFrom Q n xs ys → PairsFrom S n xs ys
  pairs_both P Q S f n [] [] p q = tt
  pairs_both P Q S f n [] (y ∷ ys) p q = absurd p
  pairs_both P Q S f n (x ∷ xs) [] p q = absurd p
  pairs_both P Q S f n (x ∷ xs) (y ∷ ys) p q = (f n x y p.0 q.0, pairs_both P Q S f (n + 1) xs ys p.1 q.1)

  -- a fact of each item of the second list
  pub pairs_right : (P S : ℕ → X → Y → Type 0) (Q : Y → Type 0) → ((i : ℕ) (x : X) (y : Y) → P i x y → S i x y → Q y) → (n : ℕ) (xs : List X) (ys : List Y) → PairsFrom P n xs ys → PairsFrom S n xs ys → Each Q ys
  pairs_right P S Q f n [] [] p s = tt
  pairs_right P S Q f n [] (y ∷ ys) p s = absurd p
  pairs_right P S Q f n (x ∷ xs) [] p s = absurd p
  pairs_right P S Q f n (x ∷ xs) (y ∷ ys) p s = (f n x y p.0 s.0, pairs_right P S Q f (n + 1) xs ys p.1 s.1)

  -- a fact that may know the place to be one of the first list, and a fact of each of its items
  pub pairs_within : (P S : ℕ → X → Y → Type 0) (Q : X → Type 0) (xs : List X) (ys : List Y) → ((i : ℕ) (x : X) (y : Y) → i < length xs → Q x → P i x y → S i x y) → Each Q xs → PairsFrom P 0 xs ys → PairsFrom S 0 xs ys
  pairs_within P S Q xs ys f q h = along 0 xs ys (λ i x y l. f i x y (omega arith)) q h
    where
      along : (n : ℕ) (xs : List X) (ys : List Y) → ((i : ℕ) (x : X) (y : Y) → i < n + length xs → Q x → P i x y → S i x y) → Each Q xs → PairsFrom P n xs ys → PairsFrom S n xs ys
      along n [] [] f q h = tt
      along n [] (y ∷ ys) f q h = absurd h
      along n (x ∷ xs) [] f q h = absurd h
      along n (x ∷ xs) (y ∷ ys) f q h = (f n x y (omega arith) q.0 h.0, along (n + 1) xs ys (λ i z w l. f i z w (omega arith)) q.1 h.1)

  -- the item of the second list at the place of one of the first
  pub pairs_at_place : (P : ℕ → X → Y → Type 0) (x : X) (n i : ℕ) (xs : List X) (ys : List Y) → At (λ v. v ≡ x) i xs → PairsFrom P n xs ys → At (P (n + i) x) i ys
  pairs_at_place P x n i [] ys at h = absurd at
  pairs_at_place P x n i (z ∷ zs) [] at h = absurd h
  pairs_at_place P x n zero (z ∷ zs) (y ∷ ys) at h =
      let e : n ≡ n + zero = omega arith in
      subst (λ (m : ℕ). P m x y) e (subst (λ (v : X). P n v y) at h.0)
  pairs_at_place P x n (suc i) (z ∷ zs) (y ∷ ys) at h =
      let e : n + 1 + i ≡ n + suc i = omega arith in
      subst (λ (m : ℕ). At (P m x) i ys) e (pairs_at_place P x (n + 1) i zs ys at h.1)

  -- a fact that may know where each item of the first list stands
  pub pairs_placed : (P Q : ℕ → X → Y → Type 0) (xs : List X) (ys : List Y) → ((i : ℕ) (x : X) (y : Y) → At (λ v. v ≡ x) i xs → P i x y → Q i x y) → PairsFrom P 0 xs ys → PairsFrom Q 0 xs ys
  pairs_placed P Q xs ys f h = along 0 [] xs ys refl f h
    where
      here : (x : X) (xs front : List X) (n : ℕ) → length front ≡ n → At (λ v. v ≡ x) n (front ++ x ∷ xs)
      here x xs [] zero l = refl
      here x xs [] (suc n) l = absurd (omega arith)
      here x xs (z ∷ zs) zero l = absurd (omega arith)
      here x xs (z ∷ zs) (suc n) l = here x xs zs n (omega arith)

      along : (n : ℕ) (front xs : List X) (ys : List Y) → length front ≡ n → ((i : ℕ) (x : X) (y : Y) → At (λ v. v ≡ x) i (front ++ xs) → P i x y → Q i x y) → PairsFrom P n xs ys → PairsFrom Q n xs ys
      along n front [] [] l f h = tt
      along n front [] (y ∷ ys) l f h = absurd h
      along n front (x ∷ xs) [] l f h = absurd h
      along n front (x ∷ xs) (y ∷ ys) l f h =
          (f n x y (here x xs front n l) h.0, along (n + 1) (front ++ x ∷ []) xs ys (length-append front (x ∷ []) ∙ ap (λ (k : ℕ). k + 1) l) (λ i z w at p. f i z w (subst (λ (t : List X). At (λ v. v ≡ z) i t) (append_assoc front (x ∷ []) xs) at) p) h.1)

  -- lists whose images are alike, and back
  pub pairs_alike : {S : Type 0} (g : X → S) (f : Y → S) (n : ℕ) (xs : List X) (ys : List Y) → map f ys ≡ map g xs → PairsFrom (λ i x y. f y ≡ g x) n xs ys
  pairs_alike g f n [] [] e = tt
  pairs_alike g f n [] (y ∷ ys) e = absurd (let l = ap length e in omega arith)
  pairs_alike g f n (x ∷ xs) [] e = absurd (let l = ap length e in omega arith)
  pairs_alike {S} g f n (x ∷ xs) (y ∷ ys) e = (cc, pairs_alike g f (n + 1) xs ys cc)

  pub alike_pairs : {S : Type 0} (g : X → S) (f : Y → S) (n : ℕ) (xs : List X) (ys : List Y) → PairsFrom (λ i x y. f y ≡ g x) n xs ys → map f ys ≡ map g xs
  alike_pairs g f n [] [] h = refl
  alike_pairs g f n [] (y ∷ ys) h = absurd h
  alike_pairs g f n (x ∷ xs) [] h = absurd h
  alike_pairs {S} g f n (x ∷ xs) (y ∷ ys) h = ap₂ (λ (a : S) (b : List S). a ∷ b) h.0 (alike_pairs g f (n + 1) xs ys h.1)

-- two facts by way of a list in the middle
pub pairs_via : {X Y Z : Type 0} (P : ℕ → X → Y → Type 0) (Q : ℕ → Y → Z → Type 0) (S : ℕ → X → Z → Type 0) → ((i : ℕ) (x : X) (y : Y) (z : Z) → P i x y → Q i y z → S i x z) → (n : ℕ) (xs : List X) (ys : List Y) (zs : List Z) → PairsFrom P n xs ys → PairsFrom Q n ys zs → PairsFrom S n xs zs
pairs_via P Q S f n [] [] [] p q = tt
pairs_via P Q S f n [] [] (z ∷ zs) p q = absurd q
pairs_via P Q S f n [] (y ∷ ys) zs p q = absurd p
pairs_via P Q S f n (x ∷ xs) [] zs p q = absurd p
pairs_via P Q S f n (x ∷ xs) (y ∷ ys) [] p q = absurd q
pairs_via P Q S f n (x ∷ xs) (y ∷ ys) (z ∷ zs) p q = (f n x y z p.0 q.0, pairs_via P Q S f (n + 1) xs ys zs p.1 q.1)

-- facts of the item at a place, with one that holds of each item
pub at_both : {X : Type 0} (P Q S : X → Type 0) (Z : Type 0) → ((x : X) → S x → P x → Q x → Z) → (i : ℕ) (xs : List X) → Each S xs → At P i xs → At Q i xs → Z
at_both P Q S Z f i [] s p q = absurd p
at_both P Q S Z f zero (x ∷ xs) s p q = f x s.0 p q
at_both P Q S Z f (suc i) (x ∷ xs) s p q = at_both P Q S Z f i xs s.1 p q

pub each_at_place : {X : Type 0} (P : X → Type 0) (xs : List X) (i : ℕ) (d : X) → i < length xs → Each P xs → P (get_or xs i d)
each_at_place P [] i d l h = absurd (omega arith)
each_at_place P (x ∷ xs) zero d l h = h.0
each_at_place P (x ∷ xs) (suc i) d l h = each_at_place P xs i d (omega arith) h.1

-- items at one place of lists whose images are alike
pub same_at : {X Y Z : Type 0} (f : X → Z) (g : Y → Z) (xs : List X) (ys : List Y) → map f xs ≡ map g ys → (i : ℕ) (x : X) (y : Y) → i < length xs → x ≡ get_or xs i x → y ≡ get_or ys i y → f x ≡ g y
same_at f g xs ys e i x y l ex ey =
    let n = ap length e in
    let a = length-map xs f in
    let b = length-map ys g in
    ap f ex ∙ sym (get_or-map f xs i x (f x) l) ∙ ap (λ zs. get_or zs i (f x)) e ∙ get_or-map g ys i y (f x) (omega arith) ∙ ap g (sym ey)

pub same_long : {X Y Z : Type 0} (f : X → Z) (g : Y → Z) (xs : List X) (ys : List Y) → map f xs ≡ map g ys → length xs ≡ length ys
same_long f g xs ys e = sym (length-map xs f) ∙ ap length e ∙ length-map ys g
