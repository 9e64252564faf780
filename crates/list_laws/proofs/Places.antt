-- Lists that changed place by place.
use Rattle.std.proofs.Common.{◌≡◌, ℕ, zero, suc, ◌+◌, ◌<◌, ◌≤◌, List, [], ◌∷◌, ◌++◌, length, get_or, set, take, refl, sym, ap, subst, add-one, zero-add, arith}
use Rattle.std.proofs.lemmas.List.{take_more}
use Rattle.list_laws.specs.Places.{PairsFrom, ChangedFront, ChangedAt, At}

module _ {X : Type 0} (P : ℕ → X → X → Type 0) where
  -- one more item has changed
  pub changed_more : (n i : ℕ) (xs ys : List X) (d y : X) → i < length xs → ChangedFront P n i xs ys → P (n + i) (get_or xs i d) y → ChangedFront P n (suc i) xs (set ys i y)
  changed_more n zero [] ys d y l c p = absurd (omega arith)
  changed_more n zero (x ∷ xs) ys d y l c p = subst (λ (zs : List X). ChangedFront P n 1 (x ∷ xs) (set zs 0 y)) (sym c) (subst (λ (m : ℕ). P m x y) (omega arith) p, refl)
  changed_more n (suc i) [] ys d y l c p = absurd (omega arith)
  changed_more n (suc i) (x ∷ xs) [] d y l c p = absurd c
  changed_more n (suc i) (x ∷ xs) (z ∷ ys) d y l c p =
      let e : n + suc i ≡ n + 1 + i = omega arith in
      (c.0, changed_more (n + 1) i xs ys d y (omega arith) c.1 (subst (λ (m : ℕ). P m (get_or xs i d) y) e p))

  -- the item at the front has not changed yet
  pub changed_here : (n i : ℕ) (xs ys : List X) (d : X) → ChangedFront P n i xs ys → get_or ys i d ≡ get_or xs i d
  changed_here n zero xs ys d c = ap (λ (zs : List X). get_or zs 0 d) c
  changed_here n (suc i) [] [] d c = refl
  changed_here n (suc i) [] (y ∷ ys) d c = absurd c
  changed_here n (suc i) (x ∷ xs) [] d c = absurd c
  changed_here n (suc i) (x ∷ xs) (y ∷ ys) d c = changed_here (n + 1) i xs ys d c.1

  pub length-changed : (n i : ℕ) (xs ys : List X) → ChangedFront P n i xs ys → length ys ≡ length xs
  length-changed n zero xs ys c = ap length c
  length-changed n (suc i) [] [] c = refl
  length-changed n (suc i) [] (y ∷ ys) c = absurd c
  length-changed n (suc i) (x ∷ xs) [] c = absurd c
  length-changed n (suc i) (x ∷ xs) (y ∷ ys) c = ap suc (length-changed (n + 1) i xs ys c.1)

  pub changed_all : (n i : ℕ) (xs ys : List X) → length xs ≤ i → ChangedFront P n i xs ys → PairsFrom P n xs ys
  changed_all n zero [] ys l c = subst (λ (zs : List X). PairsFrom P n [] zs) (sym c) tt
  changed_all n zero (x ∷ xs) ys l c = absurd (omega arith)
  changed_all n (suc i) [] [] l c = tt
  changed_all n (suc i) [] (y ∷ ys) l c = absurd c
  changed_all n (suc i) (x ∷ xs) [] l c = absurd c
  changed_all n (suc i) (x ∷ xs) (y ∷ ys) l c = (c.0, changed_all (n + 1) i xs ys (omega arith) c.1)

  -- the loop's step: item i has changed
  pub changed_next : (i : ℕ) (xs ys : List X) (d y : X) → i < length xs → ChangedFront P 0 i xs ys → P i (get_or ys i d) y → ChangedFront P 0 (i + 1) xs (set ys i y)
  changed_next i xs ys d y l c p = subst (λ (n : ℕ). ChangedFront P 0 n xs (set ys i y)) (sym (add-one i)) (changed_more 0 i xs ys d y l c (subst (λ (m : ℕ). P m (get_or xs i d) y) (sym (zero-add i)) (subst (λ (x : X). P i x y) (changed_here 0 i xs ys d c) p)))

module _ {X : Type 0} (P : X → X → Type 0) where
  pub changed_at_set : (i : ℕ) (xs : List X) (d y : X) → i < length xs → P (get_or xs i d) y → ChangedAt P i xs (set xs i y)
  changed_at_set i [] d y l p = absurd (omega arith)
  changed_at_set zero (x ∷ xs) d y l p = (p, refl)
  changed_at_set (suc i) (x ∷ xs) d y l p = (refl, changed_at_set i xs d y (omega arith) p)

module _ {X Y : Type 0} where
  pub pairs_at : (P : ℕ → X → Y → Type 0) (n i : ℕ) (xs : List X) (ys : List Y) (d : X) (e : Y) → i < length xs → PairsFrom P n xs ys → P (n + i) (get_or xs i d) (get_or ys i e)
  pairs_at P n i [] ys d e l h = absurd (omega arith)
  pairs_at P n i (x ∷ xs) [] d e l h = absurd h
  pairs_at P n zero (x ∷ xs) (y ∷ ys) d e l h = subst (λ (m : ℕ). P m x y) (omega arith) h.0
  pairs_at P n (suc i) (x ∷ xs) (y ∷ ys) d e l h =
      let s : n + 1 + i ≡ n + suc i = omega arith in
      subst (λ (m : ℕ). P m (get_or xs i d) (get_or ys i e)) s (pairs_at P (n + 1) i xs ys d e (omega arith) h.1)

  pub pairs_weaker : (P Q : ℕ → X → Y → Type 0) (n : ℕ) (xs : List X) (ys : List Y) → ((i : ℕ) (x : X) (y : Y) → P i x y → Q i x y) → PairsFrom P n xs ys → PairsFrom Q n xs ys
  pairs_weaker P Q n [] [] f h = tt
  pairs_weaker P Q n [] (y ∷ ys) f h = absurd h
  pairs_weaker P Q n (x ∷ xs) [] f h = absurd h
  pairs_weaker P Q n (x ∷ xs) (y ∷ ys) f h = (f n x y h.0, pairs_weaker P Q (n + 1) xs ys f h.1)

  pub length-pairs : (P : ℕ → X → Y → Type 0) (n : ℕ) (xs : List X) (ys : List Y) → PairsFrom P n xs ys → length ys ≡ length xs
  length-pairs P n [] [] h = refl
  length-pairs P n [] (y ∷ ys) h = absurd h
  length-pairs P n (x ∷ xs) [] h = absurd h
  length-pairs P n (x ∷ xs) (y ∷ ys) h = ap suc (length-pairs P (n + 1) xs ys h.1)

pub at_get : {X : Type 0} (P : X → Type 0) (i : ℕ) (xs : List X) (d : X) → i < length xs → P (get_or xs i d) → At P i xs
at_get P i [] d l p = absurd (omega arith)
at_get P zero (x ∷ xs) d l p = p
at_get P (suc i) (x ∷ xs) d l p = at_get P i xs d (omega arith) p

pub pairs_push : {X Y : Type 0} (P : ℕ → X → Y → Type 0) (n : ℕ) (xs : List X) (ys : List Y) (x : X) (y : Y) → PairsFrom P n xs ys → ((i : ℕ) → P i x y) → PairsFrom P n (xs ++ x ∷ []) (ys ++ y ∷ [])
pairs_push P n [] [] x y h p = (p n, tt)
pairs_push P n [] (z ∷ zs) x y h p = absurd h
pairs_push P n (z ∷ zs) [] x y h p = absurd h
pairs_push P n (z ∷ zs) (w ∷ ws) x y h p = (h.0, pairs_push P (n + 1) zs ws x y h.1 p)

pub pairs_next : {X Y : Type 0} (P : ℕ → X → Y → Type 0) (i : ℕ) (xs : List X) (ys zs : List Y) (d : X) (y : Y) → i < length xs → PairsFrom P 0 (take i xs) ys → zs ≡ ys ++ y ∷ [] → ((j : ℕ) → P j (get_or xs i d) y) → PairsFrom P 0 (take (i + 1) xs) zs
pairs_next {X} {Y} P i xs ys zs d y l h e p = subst (λ (vs : List X). PairsFrom P 0 vs zs) (sym (take_more xs i d l)) (subst (λ (ws : List Y). PairsFrom P 0 (take i xs ++ get_or xs i d ∷ []) ws) (sym e) (pairs_push P 0 (take i xs) ys (get_or xs i d) y h p))
