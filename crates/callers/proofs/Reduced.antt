-- The values of groups that values entered one by one.
use Rattle.std.proofs.Common.{◌≡◌, ℕ, ◌-◌, ◌<◌, ◌≤◌, eqb, cond, List, [], ◌∷◌, ◌++◌, map, length, get_or, set, replicate, refl, sym, ap, ap₂, ◌∙◌, subst, inl, inr, arith}
use Rattle.std.specs.List.{All}
use Rattle.std.proofs.lemmas.Bool.{cases_Bool, eqb-true, eqb-false}
use Rattle.std.proofs.lemmas.List.{take_all, get_or-map, get_or-replicate, get_or-set_same, get_or-set_other, length-replicate, length-set}
use Rattle.std.proofs.lemmas.List.Elements.{All-cons, All-head, All-nil, All-tail}
use Rattle.col_core.specs.declared.leaf.Leaf.{Leaf}
use Rattle.col_core.specs.declared.leaf.Leaf.TheVariants.{Null}
use Rattle.col_core.specs.declared.data_type.DataType.{DataType}
use Rattle.reduce_model.specs.declared.kind.ReductionKind.{ReductionKind}
use Rattle.reduce_model.specs.Folds.{fold_of}
use Rattle.reduce_states.specs.States.{Entry, State, start, one, merge, after, out, IsInOrder}
use Rattle.reduce_states.specs.Moves.{cut_or_filled, entered, numbered, ones}
use Rattle.reduce_states.specs.Reductions.{Enters, OnesOf, Shape}
use Rattle.reduce_states.proofs.Folded.{out-state_of}
use Rattle.reduce_states.proofs.Moved.{length-entered}
use Rattle.callers.specs.Groups.{values_of_group}

-- entries of one number are in order
in_order : (n : ℕ) (vs : List Leaf) → IsInOrder (numbered n vs)
in_order n [] = tt
in_order n (v ∷ vs) = (each vs, in_order n vs)
  where
    each : (ws : List Leaf) → All (λ (x : Entry). n ≤ x.number) (numbered n ws)
    each [] = All-nil (λ (x : Entry). n ≤ x.number)
    each (w ∷ ws) = All-cons (λ (x : Entry). n ≤ x.number) (record { number = n; value = w }) (numbered n ws) (omega arith) (each ws)

values_are : (n : ℕ) (vs : List Leaf) → map (λ (e : Entry). e.value) (numbered n vs) ≡ vs
values_are n [] = refl
values_are n (v ∷ vs) = ap (λ (ws : List Leaf). v ∷ ws) (values_are n vs)

-- what stands in a list after one was set
get_set : (d : State) (xs : List State) (i j : ℕ) (x : State) → i < length xs → get_or (set xs i x) j d ≡ cond (eqb i j) x (get_or xs j d)
get_set d xs i j x l = elim (cases_Bool (eqb i j)) [
  | inl same ↦ rw same (subst (λ (n : ℕ). get_or (set xs i x) n d ≡ x) (eqb-true i j same) (get_or-set_same xs i x d l))
  | inr apart ↦ rw apart (get_or-set_other xs i j x d (λ e. eqb-false i j apart (sym e)))
]

all_start : (d : State) (n : ℕ) → cut_or_filled d [] n ≡ replicate n d
all_start d n = ap₂ (λ (xs : List State) (m : ℕ). xs ++ replicate m d) (take_all n [] (omega arith)) none_yet
  where
    none_yet : n - length {A = State} [] ≡ n
    none_yet = omega arith

module _ (k : ReductionKind) (t : DataType) where
  -- a group has at the end the state of what it had and of what entered it
  group_state : (xs : List State) (gs : List ℕ) (vs : List Leaf) (g : ℕ) → All (λ i. i < length xs) gs
      → get_or (entered (start k t) (merge k t) xs gs (ones k t 0 vs)) g (start k t) ≡ after k t (get_or xs g (start k t)) (numbered 0 (values_of_group gs vs g))
  group_state xs [] vs g h = refl
  group_state xs (i ∷ gs) [] g h = refl
  group_state xs (i ∷ gs) (v ∷ vs) g h =
      group_state (set xs i x) gs vs g (subst (λ (n : ℕ). All (λ j. j < n) gs) (sym (length-set xs i x)) (All-tail (λ j. j < length xs) i gs h))
      ∙ ap (λ (s : State). after k t s (numbered 0 (values_of_group gs vs g))) (get_set (start k t) xs i g x (All-head (λ j. j < length xs) i gs h))
      ∙ step
    where
      x : State
      x = merge k t (get_or xs i (start k t)) (one k t (record { number = 0; value = v }))

      step : after k t (cond (eqb i g) x (get_or xs g (start k t))) (numbered 0 (values_of_group gs vs g)) ≡ after k t (get_or xs g (start k t)) (numbered 0 (values_of_group (i ∷ gs) (v ∷ vs) g))
      step = elim (cases_Bool (eqb i g)) [
        | inl same ↦ rw same (ap (λ (j : ℕ). after k t (merge k t (get_or xs j (start k t)) (one k t (record { number = 0; value = v }))) (numbered 0 (values_of_group gs vs g))) (eqb-true i g same))
        | inr apart ↦ rw apart refl
      ]

  -- and gives the plain fold, where it had nothing
  pub group_folds : (n : ℕ) (gs : List ℕ) (vs : List Leaf) (g : ℕ) → All (λ i. i < n) gs → g < n
      → get_or (map out (entered (start k t) (merge k t) (cut_or_filled (start k t) [] n) gs (ones k t 0 vs))) g Null ≡ fold_of k t (values_of_group gs vs g)
  group_folds n gs vs g h l =
      let d = start k t in
      let xs = replicate n d in
      let long : length xs ≡ n = length-replicate n d in
      let ends = entered d (merge k t) xs gs (ones k t 0 vs) in
      ap (λ (ys : List State). get_or (map out (entered d (merge k t) ys gs (ones k t 0 vs))) g Null) (all_start d n)
      ∙ get_or-map out ends g d Null (omega (arith, length-entered d (merge k t) xs gs (ones k t 0 vs), long, l))
      ∙ ap out (group_state xs gs vs g (subst (λ (m : ℕ). All (λ i. i < m) gs) (sym long) h))
      ∙ ap (λ (s : State). out (after k t s (numbered 0 (values_of_group gs vs g)))) (get_or-replicate n g d d l)
      ∙ out-state_of k t (numbered 0 (values_of_group gs vs g)) (in_order 0 (values_of_group gs vs g))
      ∙ ap (fold_of k t) (values_are 0 (values_of_group gs vs g))

-- and so a column that the calls of a reduction make
pub column_folds : {R : Type 0} (shape : R → Shape) (holds : R → List State → Type 0) (a b c : R) (n : ℕ) (gs : List ℕ) (vs column : List Leaf) (t : DataType)
    → holds a [] → t ≡ (shape a).dtype → All (λ g. g < n) gs
    → shape b ≡ record (shape a) { groups = n }
    → ((xs : List State) → holds a xs → holds b (cut_or_filled (start (shape a).kind (shape a).dtype) xs n))
    → Enters (shape b) (holds b) (OnesOf (shape b) 0 vs) (holds c) gs
    → ((xs : List State) → holds c xs → column ≡ map out xs)
    → (g : ℕ) → g < n → get_or column g Null ≡ fold_of (shape a).kind t (values_of_group gs vs g)
unfolding Enters OnesOf
column_folds shape holds a b c n gs vs column t none dtype places sized filled takes finished g l =
    let s = shape a in
    let xs = cut_or_filled (start s.kind s.dtype) [] n in
    let whole = takes xs (ones (shape b).kind (shape b).dtype 0 vs) (filled [] none) refl in
    let same = subst (λ (q : Shape). holds c (entered (start q.kind q.dtype) (merge q.kind q.dtype) xs gs (ones q.kind q.dtype 0 vs))) sized whole in
    ap (λ (ws : List Leaf). get_or ws g Null) (finished (entered (start s.kind s.dtype) (merge s.kind s.dtype) xs gs (ones s.kind s.dtype 0 vs)) same)
    ∙ group_folds s.kind s.dtype n gs vs g places l
    ∙ ap (λ (u : DataType). fold_of s.kind u (values_of_group gs vs g)) (sym dtype)
