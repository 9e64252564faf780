-- Lists of kept values that stand for states.
use Rattle.std.proofs.Common.{◌≡◌, ◌==◌, ℕ, zero, suc, ◌+◌, ◌<◌, ◌≤◌, Bool, true, false, if◌then◌else◌, List, [], ◌∷◌, ◌++◌, length, take, get_or, map, slice_get, IsSomeAnd, Some, None, is_some, Result, Ok, Err, OnErr, refl, sym, ap, subst, ◌∙◌, arith}
use Rattle.std.proofs.Math.ListN.{set}
use Rattle.std.proofs.lemmas.List.{set-get_or, take_all}
use Rattle.std.specs.List.{All, AllZip, zip}
use Rattle.list_laws.specs.Each.{Each}
use Rattle.list_laws.proofs.Each.{Each-from_All, All-from_Each}
use Rattle.col_core.specs.declared.leaf.Leaf.{Leaf}
use Rattle.col_core.specs.declared.data_type.DataType.{DataType}
use Rattle.group_parts.specs.Parts.{dealt}
use Rattle.reduce_model.specs.declared.kind.ReductionKind.{ReductionKind}
use Rattle.reduce_model.specs.declared.kind.ReductionKind.TheVariants as kinds
use Rattle.reduce_model.specs.Folds.{reduced_type}
use Rattle.reduce_states.specs.States.{State, out, start, merge}
use Rattle.reduce_states.specs.Moves.{entered}
use Rattle.reduce_states.specs.Reductions.{Shape}
use Rattle.reduce_states.proofs.Moved.{entered_more}
use Rattle.group_reduce.specs.Reducing.{IsFinished, all_shown}

pub on_err : {A E : Type 0} (r : Result A E) {P : Type 0} → P → OnErr r P
on_err (Ok a) p = tt
on_err (Err e) p = p

-- ---- two lists whose items go in pairs

pub AllZip-get_or : {A B : Type 0} (R : A → B → Type 0) (xs : List A) (ys : List B) (i : ℕ) (d : A) (e : B) → AllZip R xs ys → i < length xs → R (get_or xs i d) (get_or ys i e)
AllZip-get_or R [] ys i d e h lt = absurd (omega arith)
AllZip-get_or R (x ∷ xs) [] i d e h lt = absurd h
AllZip-get_or R (x ∷ xs) (y ∷ ys) zero d e h lt = h.0
AllZip-get_or R (x ∷ xs) (y ∷ ys) (suc i) d e h lt = AllZip-get_or R xs ys i d e h.1 (omega arith)

pub AllZip-set : {A B : Type 0} (R : A → B → Type 0) (xs : List A) (ys : List B) (i : ℕ) (x : A) (y : B) → AllZip R xs ys → R x y → AllZip R (set xs i x) (set ys i y)
AllZip-set R [] [] i x y h r = h
AllZip-set R [] (b ∷ ys) i x y h r = absurd h
AllZip-set R (a ∷ xs) [] i x y h r = absurd h
AllZip-set R (a ∷ xs) (b ∷ ys) zero x y h r = (r, h.1)
AllZip-set R (a ∷ xs) (b ∷ ys) (suc i) x y h r = (h.0, AllZip-set R xs ys i x y h.1 r)

pub AllZip-push : {A B : Type 0} (R : A → B → Type 0) (xs : List A) (ys : List B) (x : A) (y : B) → AllZip R xs ys → R x y → AllZip R (xs ++ x ∷ []) (ys ++ y ∷ [])
AllZip-push R [] [] x y h r = (r, tt)
AllZip-push R [] (b ∷ ys) x y h r = absurd h
AllZip-push R (a ∷ xs) [] x y h r = absurd h
AllZip-push R (a ∷ xs) (b ∷ ys) x y h r = (h.0, AllZip-push R xs ys x y h.1 r)

pub AllZip-take : {A B : Type 0} (R : A → B → Type 0) (n : ℕ) (xs : List A) (ys : List B) → AllZip R xs ys → AllZip R (take n xs) (take n ys)
AllZip-take R zero xs ys h = tt
AllZip-take R (suc n) [] [] h = tt
AllZip-take R (suc n) [] (b ∷ ys) h = absurd h
AllZip-take R (suc n) (a ∷ xs) [] h = absurd h
AllZip-take R (suc n) (a ∷ xs) (b ∷ ys) h = (h.0, AllZip-take R n xs ys h.1)

pub AllZip-dealt : {A B : Type 0} (R : A → B → Type 0) (p : ℕ) (is : List ℕ) (xs : List A) (ys : List B) → AllZip R xs ys → AllZip R (dealt p is xs) (dealt p is ys)
AllZip-dealt R p [] xs ys h = tt
AllZip-dealt R p (i ∷ is) [] [] h = tt
AllZip-dealt R p (i ∷ is) [] (y ∷ ys) h = absurd h
AllZip-dealt R p (i ∷ is) (x ∷ xs) [] h = absurd h
AllZip-dealt {A} {B} R p (i ∷ is) (x ∷ xs) (y ∷ ys) h =
    let rest : AllZip R (dealt p is xs) (dealt p is ys) = AllZip-dealt R p is xs ys h.1 in
    elim (i == p) as (λ b. AllZip R (if b then x ∷ dealt p is xs else dealt p is xs) (if b then y ∷ dealt p is ys else dealt p is ys)) [ true ↦ (h.0, rest) | false ↦ rest ]

-- what holds of the second of a pair, at a place
pub AllZip-at_place : {A B : Type 0} (R : A → B → Type 0) (xs : List A) (ys : List B) (p : ℕ) (P : A → Type 0) (Q : B → Type 0) → AllZip R xs ys → IsSomeAnd (slice_get xs p) P → ((x : A) (y : B) → R x y → P x → Q y) → IsSomeAnd (slice_get ys p) Q
AllZip-at_place R [] [] p P Q h k f = absurd k
AllZip-at_place R [] (y ∷ ys) p P Q h k f = absurd h
AllZip-at_place R (x ∷ xs) [] p P Q h k f = absurd h
AllZip-at_place R (x ∷ xs) (y ∷ ys) zero P Q h k f = f x y h.0 k
AllZip-at_place R (x ∷ xs) (y ∷ ys) (suc p) P Q h k f = AllZip-at_place R xs ys p P Q h.1 k f

-- what holds of an item at a place, and so something else
pub weaker_place : {A : Type 0} (xs : List A) (p : ℕ) (P Q : A → Type 0) → IsSomeAnd (slice_get xs p) P → ((x : A) → P x → Q x) → IsSomeAnd (slice_get xs p) Q
weaker_place [] p P Q h f = h
weaker_place (x ∷ xs) zero P Q h f = f x h
weaker_place (x ∷ xs) (suc p) P Q h f = weaker_place xs p P Q h f

-- ---- a kept value at a place

-- what a kept value that was found at a place stands for
pub found : {A : Type 0} (R : A → State → Type 0) (vs : List A) (xs : List State) (i : ℕ) (v : A) (d : State) → AllZip R vs xs → i < length vs → v ≡ get_or vs i v → R v (get_or xs i d)
found R vs xs i v d h lt e = subst (λ w. R w (get_or xs i d)) (sym e) (AllZip-get_or R vs xs i v d h lt)

-- a kept value that stayed as it was
pub stayed : {A : Type 0} (R : A → State → Type 0) (vs : List A) (zs : List State) (i : ℕ) (v w : A) → AllZip R vs zs → v ≡ get_or vs i v → w ≡ v → AllZip R (set vs i w) zs
stayed R vs zs i v w h e f = subst (λ us. AllZip R us zs) (sym (ap (set vs i) (f ∙ e) ∙ set-get_or vs i v)) h

-- one more state has entered
pub entered_next : {A : Type 0} (R : A → State → Type 0) (k : ReductionKind) (t : DataType) (vs : List A) (xs : List State) (gs : List ℕ) (ys : List State) (i : ℕ) (w : A) (y : State)
    → AllZip R vs (entered (start k t) (merge k t) xs (take i gs) (take i ys)) → i < length gs → i < length ys → y ≡ get_or ys i None
    → R w (merge k t (get_or (entered (start k t) (merge k t) xs (take i gs) (take i ys)) (get_or gs i 0) (start k t)) y)
    → AllZip R (set vs (get_or gs i 0) w) (entered (start k t) (merge k t) xs (take (i + 1) gs) (take (i + 1) ys))
entered_next R k t vs xs gs ys i w y h p q e r =
    let zs = entered (start k t) (merge k t) xs (take i gs) (take i ys) in
    let g = get_or gs i 0 in
    let step : State → Type 0 = λ (s : State). R w (merge k t (get_or zs g (start k t)) s) in
    subst (AllZip R (set vs g w)) (sym (entered_more (start k t) (merge k t) xs gs ys i None p q))
    (AllZip-set R vs zs g w (merge k t (get_or zs g (start k t)) (get_or ys i None)) h (subst step e r))

-- all have entered
pub entered_all : {A : Type 0} (R : A → State → Type 0) (k : ReductionKind) (t : DataType) (vs : List A) (xs : List State) (gs : List ℕ) (ys : List State) (i : ℕ)
    → length gs ≤ i → length ys ≤ i → AllZip R vs (entered (start k t) (merge k t) xs (take i gs) (take i ys)) → AllZip R vs (entered (start k t) (merge k t) xs gs ys)
entered_all R k t vs xs gs ys i p q h = subst (AllZip R vs)
    (ap (λ (hs : List ℕ). entered (start k t) (merge k t) xs hs (take i ys)) (take_all i gs p) ∙ ap (entered (start k t) (merge k t) xs gs) (take_all i ys q)) h

-- ---- shapes, and what all kept values fit

abbrev shaped : ReductionKind → DataType → Bool → ℕ → ℕ → Shape
shaped k t b n f = record { kind = k; dtype = t; fixed = b; groups = n; form = f }

pub same_shape : (k : ReductionKind) (t : DataType) (b : Bool) (n m f : ℕ) → n ≡ m → shaped k t b n f ≡ shaped k t b m f
same_shape k t b n m f e = ap (λ (i : ℕ). shaped k t b i f) e

pub same_part : (k : ReductionKind) (t u : DataType) (b : Bool) (n m f : ℕ) → t ≡ u → n ≡ m → shaped k t b n f ≡ shaped k u b m f
same_part k t u b n m f e d = ap (λ (v : DataType). shaped k v b n f) e ∙ same_shape k u b n m f d

-- a kind other than sum keeps the column's type
pub reduced_type-plain : (k : ReductionKind) (t : DataType) → (k ≡ kinds.Sum → ⊥) → reduced_type k t ≡ t
reduced_type-plain kinds.Sum t n = absurd (n refl)
reduced_type-plain kinds.Min t n = refl
reduced_type-plain kinds.Max t n = refl
reduced_type-plain kinds.First t n = refl
reduced_type-plain kinds.Last t n = refl

pub Each-dealt : {A : Type 0} (P : A → Type 0) (p : ℕ) (is : List ℕ) (xs : List A) → Each P xs → Each P (dealt p is xs)
Each-dealt P p [] xs h = tt
Each-dealt P p (i ∷ is) [] h = tt
Each-dealt {A} P p (i ∷ is) (x ∷ xs) h =
    let rest : Each P (dealt p is xs) = Each-dealt P p is xs h.1 in
    elim (i == p) as (λ b. Each P (if b then x ∷ dealt p is xs else dealt p is xs)) [ true ↦ (h.0, rest) | false ↦ rest ]

pub All-dealt : {A : Type 0} (P : A → Type 0) (p : ℕ) (is : List ℕ) (xs : List A) → All P xs → All P (dealt p is xs)
All-dealt P p is xs h = All-from_Each P (dealt p is xs) (Each-dealt P p is xs (Each-from_All P xs h))

-- ---- the values of states

-- every value is shown, and none is told apart
pub finished_plain : {V : Type 0} (stands : V → State → Type 0) (vs : List V) (xs : List State) (ls : List Leaf)
    → AllZip stands vs xs → AllZip (IsFinished stands true) (zip vs (all_shown (length vs))) ls → ls ≡ map out xs
finished_plain stands [] [] [] h f = refl
finished_plain stands [] [] (l ∷ ls) h f = absurd f
finished_plain stands [] (x ∷ xs) ls h f = absurd h
finished_plain stands (v ∷ vs) [] ls h f = absurd h
finished_plain stands (v ∷ vs) (x ∷ xs) [] h f = absurd f
finished_plain {V} stands (v ∷ vs) (x ∷ xs) (l ∷ ls) h f =
    ap (λ (y : Leaf). y ∷ ls) (here x h.0) ∙ ap (λ (ys : List Leaf). out x ∷ ys) (finished_plain stands vs xs ls h.1 f.1)
  where
    here : (y : State) → stands v y → l ≡ out y
    here None s = f.0.none refl refl s
    here (Some e) s = f.0.kept refl e s

-- the bits tell which states are none
pub finished_masked : {V : Type 0} (stands : V → State → Type 0) (tells : Bool) (vs : List V) (bits : List Bool) (xs : List State) (ls : List Leaf)
    → AllZip stands vs xs → AllZip (λ bit x. bit ≡ is_some x) bits xs → AllZip (IsFinished stands tells) (zip vs bits) ls → ls ≡ map out xs
finished_masked stands tells [] [] [] [] h b f = refl
finished_masked stands tells [] [] [] (l ∷ ls) h b f = absurd f
finished_masked stands tells [] (c ∷ bits) [] ls h b f = absurd b
finished_masked stands tells [] bits (x ∷ xs) ls h b f = absurd h
finished_masked stands tells (v ∷ vs) bits [] ls h b f = absurd h
finished_masked stands tells (v ∷ vs) [] (x ∷ xs) ls h b f = absurd b
finished_masked stands tells (v ∷ vs) (c ∷ bits) (x ∷ xs) [] h b f = absurd f
finished_masked {V} stands tells (v ∷ vs) (c ∷ bits) (x ∷ xs) (l ∷ ls) h b f =
    ap (λ (y : Leaf). y ∷ ls) (here x h.0 b.0) ∙ ap (λ (ys : List Leaf). out x ∷ ys) (finished_masked stands tells vs bits xs ls h.1 b.1 f.1)
  where
    here : (y : State) → stands v y → c ≡ is_some y → l ≡ out y
    here None s e = f.0.hidden e
    here (Some n) s e = f.0.kept e n s
