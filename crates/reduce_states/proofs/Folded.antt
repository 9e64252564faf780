-- What the state of entries gives is the plain fold of their values.
use Rattle.std.proofs.Common.{◌≡◌, ◌≤◌, ◌<◌, ◌-◌, ℕ, suc, ℤ, pos, ◌+ℤ◌, Bool, true, false, Some, List, [], ◌∷◌, fold, map, length, All, if◌then◌else◌, refl, sym, ap, ◌∙◌, subst, arith}
use Rattle.std.proofs.Math.IntN.{+ℤ_idr}
use Rattle.std.specs.declared.cmp.Ordering.{Ordering}
use Rattle.std.specs.Ordering.{nat_cmp, flip_args, is_gt}
use Rattle.std.proofs.lemmas.Cmp.{ranked, by_ranked}
use Rattle.col_core.specs.declared.leaf.Leaf.{Leaf}
use Rattle.col_core.specs.declared.leaf.Leaf.TheVariants as leaves
use Rattle.col_core.specs.declared.data_type.DataType.{DataType}
use Rattle.col_core.specs.declared.data_type.DataType.TheVariants.{Boolean, Int8, Int16, Int32, Int64, UInt8, UInt16, UInt32, UInt64, Int128, Decimal, Date, Time, Datetime, Duration, String, Binary}
use Rattle.col_core.specs.Values.{value_at}
use Rattle.reduce_model.specs.declared.kind.ReductionKind.{ReductionKind}
use Rattle.reduce_model.specs.declared.kind.ReductionKind.TheVariants as kinds
use Rattle.reduce_model.specs.Orders.{leaf_cmp, least_by}
use Rattle.reduce_model.specs.Folds.{wrap_in, add_value, sum_leaf, better, fold_of}
use Rattle.reduce_states.specs.States.{Entry, State, unnumbered, by_number, amount, total, present, out, join, merge, after, state_of, IsInOrder}
use Rattle.reduce_states.proofs.Wrapped.{summed-add_right, sum_leaf-add, wrap_in-wrap_in}

abbrev values_of : List Entry → List Leaf
values_of es = map (λ (e : Entry). e.value) es

-- ---- sums

wrap_in-zero : (t : DataType) → wrap_in t (pos 0) ≡ pos 0
wrap_in-zero Boolean = refl
wrap_in-zero Int8 = refl
wrap_in-zero Int16 = refl
wrap_in-zero Int32 = refl
wrap_in-zero Int64 = refl
wrap_in-zero UInt8 = refl
wrap_in-zero UInt16 = refl
wrap_in-zero UInt32 = refl
wrap_in-zero UInt64 = refl
wrap_in-zero Int128 = refl
wrap_in-zero (Decimal p s) = refl
wrap_in-zero Date = refl
wrap_in-zero Time = refl
wrap_in-zero (Datetime u) = refl
wrap_in-zero (Duration u) = refl
wrap_in-zero String = refl
wrap_in-zero Binary = refl

-- a sum that is wrapped already
abbrev IsKept : DataType → ℤ → Type 0
IsKept t z = wrap_in t z ≡ z

pub add_value-is : (t : DataType) (z : ℤ) (v : Leaf) → IsKept t z → add_value t z v ≡ wrap_in t (z +ℤ amount v)
add_value-is t z leaves.Null h = sym (ap (wrap_in t) (+ℤ_idr z) ∙ h)
add_value-is t z (leaves.Bool b) h = sym (ap (wrap_in t) (+ℤ_idr z) ∙ h)
add_value-is t z (leaves.Whole y) h = refl
add_value-is t z (leaves.Bytes b) h = sym (ap (wrap_in t) (+ℤ_idr z) ∙ h)

pub add_value-kept : (t : DataType) (z : ℤ) (v : Leaf) → IsKept t z → IsKept t (add_value t z v)
add_value-kept t z v h = subst (IsKept t) (sym (add_value-is t z v h)) (wrap_in-wrap_in t (z +ℤ amount v))

abbrev sum_state : DataType → ℤ → State
sum_state t z = Some (unnumbered (sum_leaf t z))

pub merge-sum_state : (t : DataType) (z : ℤ) (v : Leaf) → IsKept t z → merge kinds.Sum t (sum_state t z) (total t (amount v)) ≡ sum_state t (add_value t z v)
merge-sum_state t z v h = ap (λ (x : Leaf). Some (unnumbered x))
    (summed-add_right t (amount (sum_leaf t z)) (amount v) ∙ sum_leaf-add t z (amount v) ∙ ap (sum_leaf t) (sym (add_value-is t z v h)))

after-sum : (t : DataType) (z : ℤ) (es : List Entry) → IsKept t z → after kinds.Sum t (sum_state t z) es ≡ sum_state t (fold (add_value t) z (values_of es))
after-sum t z [] h = refl
after-sum t z (e ∷ es) h =
    ap (λ (s : State). after kinds.Sum t s es) (merge-sum_state t z e.value h)
    ∙ after-sum t (add_value t z e.value) es (add_value-kept t z e.value h)

-- ---- least and greatest

chosen_present : (c : Bool) (a b : Leaf) → present a ≡ Some (unnumbered a) → present b ≡ Some (unnumbered b) → Some (unnumbered (if c then b else a)) ≡ present (if c then b else a)
chosen_present true a b p q = sym q
chosen_present false a b p q = sym p

-- a kind that keeps the better of two values under an order
abbrev Chooses : ReductionKind → DataType → (Leaf → Leaf → Ordering) → Type 0
Chooses k t R = (a b : Entry) → join k t a b ≡ Some (unnumbered (least_by R a.value b.value))

merge-present : (k : ReductionKind) (t : DataType) (R : Leaf → Leaf → Ordering) → Chooses k t R → (a b : Leaf) → merge k t (present a) (present b) ≡ present (better R a b)
merge-present k t R j a b = along a b
  where
    both : (a b : Leaf) → present a ≡ Some (unnumbered a) → present b ≡ Some (unnumbered b) → join k t (unnumbered a) (unnumbered b) ≡ present (least_by R a b)
    both a b p q = j (unnumbered a) (unnumbered b) ∙ chosen_present (is_gt (R a b)) a b p q

    along : (a b : Leaf) → merge k t (present a) (present b) ≡ present (better R a b)
    along leaves.Null b = refl
    along (leaves.Bool x) leaves.Null = refl
    along (leaves.Whole x) leaves.Null = refl
    along (leaves.Bytes x) leaves.Null = refl
    along (leaves.Bool x) (leaves.Bool y) = both (leaves.Bool x) (leaves.Bool y) refl refl
    along (leaves.Bool x) (leaves.Whole y) = both (leaves.Bool x) (leaves.Whole y) refl refl
    along (leaves.Bool x) (leaves.Bytes y) = both (leaves.Bool x) (leaves.Bytes y) refl refl
    along (leaves.Whole x) (leaves.Bool y) = both (leaves.Whole x) (leaves.Bool y) refl refl
    along (leaves.Whole x) (leaves.Whole y) = both (leaves.Whole x) (leaves.Whole y) refl refl
    along (leaves.Whole x) (leaves.Bytes y) = both (leaves.Whole x) (leaves.Bytes y) refl refl
    along (leaves.Bytes x) (leaves.Bool y) = both (leaves.Bytes x) (leaves.Bool y) refl refl
    along (leaves.Bytes x) (leaves.Whole y) = both (leaves.Bytes x) (leaves.Whole y) refl refl
    along (leaves.Bytes x) (leaves.Bytes y) = both (leaves.Bytes x) (leaves.Bytes y) refl refl

after-min : (t : DataType) (v : Leaf) (es : List Entry) → after kinds.Min t (present v) es ≡ present (fold (better leaf_cmp) v (values_of es))
after-min t v [] = refl
after-min t v (e ∷ es) =
    ap (λ (s : State). after kinds.Min t s es) (merge-present kinds.Min t leaf_cmp (λ a b. refl) v e.value)
    ∙ after-min t (better leaf_cmp v e.value) es

after-max : (t : DataType) (v : Leaf) (es : List Entry) → after kinds.Max t (present v) es ≡ present (fold (better (flip_args leaf_cmp)) v (values_of es))
after-max t v [] = refl
after-max t v (e ∷ es) =
    ap (λ (s : State). after kinds.Max t s es) (merge-present kinds.Max t (flip_args leaf_cmp) (λ a b. refl) v e.value)
    ∙ after-max t (better (flip_args leaf_cmp) v e.value) es

out-present : (v : Leaf) → out (present v) ≡ v
out-present leaves.Null = refl
out-present (leaves.Bool b) = refl
out-present (leaves.Whole z) = refl
out-present (leaves.Bytes b) = refl

-- ---- first and last

not_above : (a b : ℕ) → a ≤ b → is_gt (nat_cmp a b) ≡ false
not_above a b h = by_ranked (a < b) (a ≡ b) (b < a) (nat_cmp a b) (ranked a b (nat_cmp a b) refl) (λ e lt. ap is_gt e) (λ e same. ap is_gt e) (λ e gt. absurd (omega (arith, gt, h)))

after-first : (t : DataType) (a : Entry) (es : List Entry) → All (λ x. a.number ≤ x.number) es → after kinds.First t (Some a) es ≡ Some a
after-first t a [] h = refl
after-first t a (e ∷ es) h =
    let stays : least_by by_number a e ≡ a = rw (not_above a.number e.number (h 0 e (omega arith))) refl in
    ap (λ (x : Entry). after kinds.First t (Some x) es) stays ∙ after-first t a es (λ i d lt. h (suc i) d (omega arith))

after-last : (t : DataType) (a : Entry) (es : List Entry) → IsInOrder (a ∷ es) → out (after kinds.Last t (Some a) es) ≡ value_at (a.value ∷ values_of es) (length (values_of es))
after-last t a [] h = refl
after-last t a (e ∷ es) h =
    let moves : least_by (flip_args by_number) e a ≡ e = rw (not_above a.number e.number (h.0 0 e (omega arith))) refl in
    ap (λ (x : Entry). out (after kinds.Last t (Some x) es)) moves ∙ after-last t e es h.1

-- ---- all kinds

pub out-state_of : (k : ReductionKind) (t : DataType) (es : List Entry) → IsInOrder es → out (state_of k t es) ≡ fold_of k t (values_of es)
out-state_of kinds.Sum t es h =
    ap (λ (z : ℤ). out (after kinds.Sum t (sum_state t z) es)) (wrap_in-zero t) ∙ ap out (after-sum t (pos 0) es (wrap_in-zero t))
out-state_of kinds.Min t es h = ap out (after-min t leaves.Null es) ∙ out-present (fold (better leaf_cmp) leaves.Null (values_of es))
out-state_of kinds.Max t es h = ap out (after-max t leaves.Null es) ∙ out-present (fold (better (flip_args leaf_cmp)) leaves.Null (values_of es))
out-state_of kinds.First t [] h = refl
out-state_of kinds.First t (e ∷ es) h = ap out (after-first t e es h.0)
out-state_of kinds.Last t [] h = refl
out-state_of kinds.Last t (e ∷ es) h = after-last t e es h ∙ ap (value_at (e.value ∷ values_of es)) (sym (last_place (values_of es)))
  where
    last_place : (vs : List Leaf) → suc (length vs) - 1 ≡ length vs
    last_place vs = omega arith
