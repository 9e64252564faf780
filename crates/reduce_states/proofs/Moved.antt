-- Items that enter groups one by one, and lists that are cut or filled.
use Rattle.std.proofs.Common.{◌≡◌, ℕ, zero, suc, ◌+◌, ◌-◌, ◌<◌, ◌≤◌, List, [], ◌∷◌, ◌++◌, length, take, get_or, replicate, refl, sym, ap, ◌∙◌, arith, add-one}
use Rattle.std.proofs.Math.ListN.{set}
use Rattle.std.proofs.lemmas.List.{length-set, length-map, get_or-map, take_all, append-nil, append_assoc}
use Rattle.col_core.specs.declared.leaf.Leaf.{Leaf}
use Rattle.col_core.specs.declared.leaf.Leaf.TheVariants as leaves
use Rattle.col_core.specs.declared.data_type.DataType.{DataType}
use Rattle.col_core.specs.Values.{value_at}
use Rattle.reduce_model.specs.declared.kind.ReductionKind.{ReductionKind}
use Rattle.reduce_states.specs.States.{Entry, State, start, one}
use Rattle.reduce_states.specs.Moves.{entered, cut_or_filled, numbered, ones, states_at}

entered_suc : {A B : Type 0} (d : A) (M : A → B → A) (xs : List A) (gs : List ℕ) (ys : List B) (i : ℕ) (e : B) → i < length gs → i < length ys
    → entered d M xs (take (suc i) gs) (take (suc i) ys) ≡ set (entered d M xs (take i gs) (take i ys)) (get_or gs i 0) (M (get_or (entered d M xs (take i gs) (take i ys)) (get_or gs i 0) d) (get_or ys i e))
entered_suc d M xs [] ys i e p q = absurd (omega arith)
entered_suc d M xs (g ∷ gs) [] i e p q = absurd (omega arith)
entered_suc d M xs (g ∷ gs) (y ∷ ys) zero e p q = refl
entered_suc d M xs (g ∷ gs) (y ∷ ys) (suc i) e p q = entered_suc d M (set xs g (M (get_or xs g d) y)) gs ys i e (omega arith) (omega arith)

-- one more item has entered
pub entered_more : {A B : Type 0} (d : A) (M : A → B → A) (xs : List A) (gs : List ℕ) (ys : List B) (i : ℕ) (e : B) → i < length gs → i < length ys
    → entered d M xs (take (i + 1) gs) (take (i + 1) ys) ≡ set (entered d M xs (take i gs) (take i ys)) (get_or gs i 0) (M (get_or (entered d M xs (take i gs) (take i ys)) (get_or gs i 0) d) (get_or ys i e))
entered_more d M xs gs ys i e p q = rw (add-one i) (entered_suc d M xs gs ys i e p q)

pub length-entered : {A B : Type 0} (d : A) (M : A → B → A) (xs : List A) (gs : List ℕ) (ys : List B) → length (entered d M xs gs ys) ≡ length xs
length-entered d M xs [] ys = refl
length-entered d M xs (g ∷ gs) [] = refl
length-entered d M xs (g ∷ gs) (y ∷ ys) = length-entered d M (set xs g (M (get_or xs g d) y)) gs ys ∙ length-set xs g (M (get_or xs g d) y)

-- ---- as many as are wanted

pub cut_or_filled-cut : {A : Type 0} (d : A) (xs : List A) (n : ℕ) → n ≤ length xs → cut_or_filled d xs n ≡ take n xs
cut_or_filled-cut {A} d xs n h = ap (λ (m : ℕ). take n xs ++ replicate m d) (none_left n (length xs) h) ∙ append-nil (take n xs)
  where
    none_left : (a b : ℕ) → a ≤ b → a - b ≡ zero
    none_left a b h = omega arith

pub cut_or_filled-same : {A : Type 0} (d : A) (xs : List A) (n : ℕ) → n ≡ length xs → cut_or_filled d xs n ≡ xs
cut_or_filled-same d xs n e = cut_or_filled-cut d xs n (omega arith) ∙ take_all n xs (omega arith)

replicate_push : {A : Type 0} (n : ℕ) (x : A) → replicate (suc n) x ≡ replicate n x ++ x ∷ []
replicate_push zero x = refl
replicate_push {A} (suc n) x = ap (λ (xs : List A). x ∷ xs) (replicate_push n x)

-- one more item is wanted than there are
pub cut_or_filled-more : {A : Type 0} (d : A) (xs : List A) (n : ℕ) → length xs ≤ n → cut_or_filled d xs (n + 1) ≡ cut_or_filled d xs n ++ d ∷ []
cut_or_filled-more {A} d xs n h =
    rw (take_all n xs h, take_all (n + 1) xs (omega arith))
    (ap (λ (m : ℕ). xs ++ replicate m d) (one_more n (length xs) h)
    ∙ ap (λ (zs : List A). xs ++ zs) (replicate_push (n - length xs) d)
    ∙ sym (append_assoc xs (replicate (n - length xs) d) (d ∷ [])))
  where
    one_more : (a b : ℕ) → b ≤ a → a + 1 - b ≡ suc (a - b)
    one_more a b h = omega arith

-- ---- the states of values

pub length-ones : (k : ReductionKind) (t : DataType) (n : ℕ) (vs : List Leaf) → length (ones k t n vs) ≡ length vs
length-ones k t n vs = length-map (numbered n vs) (one k t) ∙ length-map vs (λ (v : Leaf). record { number = n; value = v })

-- the state of the value at a place
pub get_or-ones : (k : ReductionKind) (t : DataType) (n : ℕ) (vs : List Leaf) (i : ℕ) (d : State) → i < length vs → get_or (ones k t n vs) i d ≡ one k t (record { number = n; value = value_at vs i })
get_or-ones k t n vs i d h =
    let entry : Leaf → Entry = λ (v : Leaf). record { number = n; value = v } in
    let inside : i < length (numbered n vs) = rw (length-map vs entry) h in
    get_or-map (one k t) (numbered n vs) i (entry leaves.Null) d inside
    ∙ ap (one k t) (get_or-map entry vs i leaves.Null (entry leaves.Null) h)

pub get_or-states_at : (k : ReductionKind) (t : DataType) (zs : List State) (gs : List ℕ) (i : ℕ) (d : State) → i < length gs → get_or (states_at k t zs gs) i d ≡ get_or zs (get_or gs i 0) (start k t)
get_or-states_at k t zs gs i d h = get_or-map (λ (g : ℕ). get_or zs g (start k t)) gs i 0 d h
