-- What calls leave, one after the other.
use Rattle.std.proofs.Common.{◌≡◌, ℕ, zero, suc, ◌<◌, List, [], ◌∷◌, map, length, get_or, slice_get, Some, Result, Ok, Err, OnOk, IfOk, refl, sym, ap, ◌∙◌, subst, arith}
use Rattle.col_core.specs.declared.leaf.Leaf.{Leaf}
use Rattle.reduce_states.specs.States.{State}
use Rattle.reduce_states.specs.Moves.{cut_or_filled, ones}
use Rattle.reduce_states.specs.Reductions.{Shape, AreAlike, Enters, OnesOf}
use Rattle.std.proofs.lemmas.List.{get_or-map}
use Rattle.group_locals.proofs.Pairs.{same_long}
use Rattle.group_locals.specs.Rows.{start_of}
use Rattle.group_locals.specs.Locals.{sized}
use Rattle.group_locals.specs.Columns.{EntersColumn, CombinesColumn}

pub on_ok : {A E : Type 0} (r : Result A E) (P Q : Type 0) → OnOk r P → (P → Q) → OnOk r Q
on_ok (Ok a) P Q h f = f h
on_ok (Err e) P Q h f = tt

pub if_ok : {A E : Type 0} (r : Result A E) (P Q : A → Type 0) → IfOk r P → ((a : A) → P a → Q a) → IfOk r Q
if_ok (Ok a) P Q h f = f a h
if_ok (Err e) P Q h f = tt

-- an item that is lent
pub lent_is : {X : Type 0} (xs : List X) (i : ℕ) (x d : X) → slice_get xs i ≡ Some x → x ≡ get_or xs i d
lent_is [] i x d e = cc
lent_is (y ∷ ys) zero x d e = cc
lent_is (y ∷ ys) (suc i) x d e = lent_is ys i x d e

module _ {R : Type 0} (shape : R → Shape) (holds : R → List State → Type 0) (a b c : R) (groups : ℕ) (gs : List ℕ) (resized : shape b ≡ sized groups (shape a)) (more : (xs : List State) → holds a xs → holds b (cut_or_filled (start_of (shape a)) xs groups)) (same : shape c ≡ shape b) where
  pub enters_column : (n : ℕ) (values : List Leaf) → Enters (shape b) (holds b) (OnesOf (shape b) n values) (holds c) gs → EntersColumn shape holds groups gs n values a c
  unfolding Enters OnesOf
  enters_column n values enters = record {
    shape_is = same ∙ resized;
    states = λ xs h.
        let e = subst (λ (s : Shape). Enters s (holds b) (OnesOf s n values) (holds c) gs) resized enters in
        e (cut_or_filled (start_of (shape a)) xs groups) (ones (shape a).kind (shape a).dtype n values) (more xs h) refl;
  }

  pub combines_column : (o : R) → Enters (shape b) (holds b) (holds o) (holds c) gs → CombinesColumn shape holds groups gs a o c
  unfolding Enters
  combines_column o enters = record {
    shape_is = same ∙ resized;
    states = λ xs ys h k.
        let e = subst (λ (s : Shape). Enters s (holds b) (holds o) (holds c) gs) resized enters in
        e (cut_or_filled (start_of (shape a)) xs groups) ys (more xs h) k;
  }

-- a reduction at a place has the shape there
item_shape : {R : Type 0} (shape : R → Shape) (n : ℕ) (shapes : List Shape) (rs : List R) → map shape rs ≡ map (sized n) shapes → (i : ℕ) (a : R) (s : Shape) → i < length rs → a ≡ get_or rs i a → shape a ≡ sized n (get_or shapes i s)
item_shape shape n shapes rs e i a s l ea =
    let m = same_long shape (sized n) rs shapes e in
    ap shape ea ∙ sym (get_or-map shape rs i a (sized n s) l) ∙ ap (λ (zs : List Shape). get_or zs i (sized n s)) e ∙ get_or-map (sized n) shapes i s (sized n s) (omega arith)

-- reductions at one place of lists of alike ones are alike
pub alike_at : {R : Type 0} (shape : R → Shape) (n m : ℕ) (shapes : List Shape) (rs os : List R) → map shape rs ≡ map (sized n) shapes → map shape os ≡ map (sized m) shapes → (i : ℕ) (a o : R) → i < length os → a ≡ get_or rs i a → o ≡ get_or os i o → AreAlike (shape a) (shape o) × ((shape o).groups ≡ m)
alike_at shape n m shapes rs os er eo i a o l ea eb =
    let x = same_long shape (sized n) rs shapes er in
    let y = same_long shape (sized m) os shapes eo in
    let p = item_shape shape n shapes rs er i a (shape a) (omega arith) ea in
    let q = item_shape shape m shapes os eo i o (shape a) l eb in
    ((ap (λ (t : Shape). t.kind) p ∙ sym (ap (λ (t : Shape). t.kind) q), ap (λ (t : Shape). t.dtype) p ∙ sym (ap (λ (t : Shape). t.dtype) q), ap (λ (t : Shape). t.form) p ∙ sym (ap (λ (t : Shape). t.form) q)), ap (λ (t : Shape). t.groups) q)
