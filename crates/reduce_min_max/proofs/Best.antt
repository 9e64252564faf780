-- Least and greatest numbers as states.
use Rattle.std.proofs.Common.{◌≡◌, ◌≢◌, ◌⊎◌, inl, inr, ℕ, ℤ, int_lt, Bool, true, false, Option, Some, None, List, [], ◌∷◌, ◌++◌, fold, map, if◌then◌else◌, refl, sym, ap, subst, ◌∙◌, arith}
use Rattle.std.proofs.lemmas.Bool.{false≢true}
use Rattle.std.proofs.lemmas.Int.{ints}
use Rattle.std.specs.List.{All, Contains}
use Rattle.std.specs.declared.cmp.Ordering.{Ordering}
use Rattle.std.specs.Ordering.{flip_args, is_gt}
use Rattle.col_core.specs.declared.leaf.Leaf.{Leaf}
use Rattle.col_core.specs.declared.leaf.Leaf.TheVariants as leaves
use Rattle.col_core.specs.declared.data_type.DataType.{DataType}
use Rattle.reduce_model.specs.declared.kind.ReductionKind.{ReductionKind}
use Rattle.reduce_model.specs.declared.kind.ReductionKind.TheVariants as kinds
use Rattle.reduce_model.specs.Orders.{leaf_cmp, least_by}
use Rattle.reduce_model.specs.Folds.{fold_of, better}
use Rattle.reduce_states.specs.States.{Entry, State, unnumbered, present, out, start, one, merge, after}
use Rattle.reduce_states.specs.Moves.{numbered}
use Rattle.std.proofs.lemmas.List.{map-append}
use Rattle.std.proofs.lemmas.List.Sums.{fold-append}
use Rattle.reduce_states.proofs.Merged.{merge-none, after-is, IsState-plain, start-plain}
use Rattle.group_reduce.specs.Masked.{skips_nulls}
use Rattle.reduce_min_max.specs.Best.{order_of, better_whole, IsBestSoFar}
use Rattle.reduce_min_max.specs.BestLaws.{not_a_sum}

-- the better of two whole numbers, as values
pub better_numbers : (k : ReductionKind) (a b : ℤ) → skips_nulls k ≡ true → better (order_of k) (leaves.Whole a) (leaves.Whole b) ≡ leaves.Whole (better_whole k a b)
better_numbers kinds.Min a b h = least a b
  where
    least : (a b : ℤ) → least_by leaf_cmp (leaves.Whole a) (leaves.Whole b) ≡ leaves.Whole (if int_lt b a then b else a)
    least a b = grind (arith, ints)
better_numbers kinds.Max a b h = greatest a b
  where
    greatest : (a b : ℤ) → least_by (flip_args leaf_cmp) (leaves.Whole a) (leaves.Whole b) ≡ leaves.Whole (if int_lt a b then b else a)
    greatest a b = grind (arith, ints)
better_numbers kinds.Sum a b h = absurd (false≢true h)
better_numbers kinds.First a b h = absurd (false≢true h)
better_numbers kinds.Last a b h = absurd (false≢true h)

-- states of values are merged as the values are chosen
merged_values : (k : ReductionKind) (t : DataType) (a b : Leaf) → skips_nulls k ≡ true → present a ≡ Some (unnumbered a) → present b ≡ Some (unnumbered b)
    → merge k t (Some (unnumbered a)) (Some (unnumbered b)) ≡ present (least_by (order_of k) a b)
merged_values k t a b s p q = along k s
  where
    chosen : (c : Bool) → Some (unnumbered (if c then b else a)) ≡ present (if c then b else a)
    chosen true = sym q
    chosen false = sym p

    along : (k : ReductionKind) → skips_nulls k ≡ true → merge k t (Some (unnumbered a)) (Some (unnumbered b)) ≡ present (least_by (order_of k) a b)
    along kinds.Min s = chosen (is_gt (leaf_cmp a b))
    along kinds.Max s = chosen (is_gt (leaf_cmp b a))
    along kinds.Sum s = absurd (false≢true s)
    along kinds.First s = absurd (false≢true s)
    along kinds.Last s = absurd (false≢true s)

-- and so are those of nulls
pub merged_present : (k : ReductionKind) (t : DataType) (a b : Leaf) → skips_nulls k ≡ true → merge k t (present a) (present b) ≡ present (better (order_of k) a b)
merged_present k t leaves.Null b s = refl
merged_present k t (leaves.Bool x) leaves.Null s = refl
merged_present k t (leaves.Whole x) leaves.Null s = refl
merged_present k t (leaves.Bytes x) leaves.Null s = refl
merged_present k t (leaves.Bool x) (leaves.Bool y) s = merged_values k t (leaves.Bool x) (leaves.Bool y) s refl refl
merged_present k t (leaves.Bool x) (leaves.Whole y) s = merged_values k t (leaves.Bool x) (leaves.Whole y) s refl refl
merged_present k t (leaves.Bool x) (leaves.Bytes y) s = merged_values k t (leaves.Bool x) (leaves.Bytes y) s refl refl
merged_present k t (leaves.Whole x) (leaves.Bool y) s = merged_values k t (leaves.Whole x) (leaves.Bool y) s refl refl
merged_present k t (leaves.Whole x) (leaves.Whole y) s = merged_values k t (leaves.Whole x) (leaves.Whole y) s refl refl
merged_present k t (leaves.Whole x) (leaves.Bytes y) s = merged_values k t (leaves.Whole x) (leaves.Bytes y) s refl refl
merged_present k t (leaves.Bytes x) (leaves.Bool y) s = merged_values k t (leaves.Bytes x) (leaves.Bool y) s refl refl
merged_present k t (leaves.Bytes x) (leaves.Whole y) s = merged_values k t (leaves.Bytes x) (leaves.Whole y) s refl refl
merged_present k t (leaves.Bytes x) (leaves.Bytes y) s = merged_values k t (leaves.Bytes x) (leaves.Bytes y) s refl refl

-- the state of one value
pub one_present : (k : ReductionKind) (t : DataType) (n : ℕ) (v : Leaf) → skips_nulls k ≡ true → one k t (record { number = n; value = v }) ≡ present v
one_present kinds.Min t n v s = refl
one_present kinds.Max t n v s = refl
one_present kinds.Sum t n v s = absurd (false≢true s)
one_present kinds.First t n v s = absurd (false≢true s)
one_present kinds.Last t n v s = absurd (false≢true s)

-- what merging gives where the kept numbers stand for two states
pub merged_numbers : (k : ReductionKind) (t : DataType) (start a b c : ℤ) (x y : State) → skips_nulls k ≡ true
    → (better_whole k start b ≡ b) → (better_whole k a start ≡ a) → c ≡ better_whole k a b
    → IsBestSoFar start a x → IsBestSoFar start b y → IsBestSoFar start c (merge k t x y)
merged_numbers k t start a b c x y s left right e (inl h) (inl i) = inl (rw (h, i, e) (merged_present k t (leaves.Whole a) (leaves.Whole b) s ∙ ap present (better_numbers k a b s)))
merged_numbers k t start a b c x y s left right e (inl h) (inr i) = inl (rw (i.0, merge-none k t x, h, e, i.1, right) refl)
merged_numbers k t start a b c x y s left right e (inr h) (inl i) = inl (rw (h.0, i, e, h.1, left) refl)
merged_numbers k t start a b c x y s left right e (inr h) (inr i) = inr (rw (h.0, i.0) refl, e ∙ ap (λ (z : ℤ). better_whole k z b) h.1 ∙ left ∙ i.1)

-- the state of values is the best of them
pub after_best : (k : ReductionKind) (t : DataType) (n : ℕ) (v : Leaf) (vs : List Leaf) → skips_nulls k ≡ true
    → after k t (present v) (numbered n vs) ≡ present (fold (better (order_of k)) v vs)
after_best k t n v [] s = refl
after_best k t n v (w ∷ vs) s =
    ap (λ (x : State). after k t x (numbered n vs)) (ap (merge k t (present v)) (one_present k t n w s) ∙ merged_present k t v w s)
    ∙ after_best k t n (better (order_of k) v w) vs s

pub fold_of_best : (k : ReductionKind) (t : DataType) (vs : List Leaf) → skips_nulls k ≡ true → fold_of k t vs ≡ fold (better (order_of k)) leaves.Null vs
fold_of_best kinds.Min t vs s = refl
fold_of_best kinds.Max t vs s = refl
fold_of_best kinds.Sum t vs s = absurd (false≢true s)
fold_of_best kinds.First t vs s = absurd (false≢true s)
fold_of_best kinds.Last t vs s = absurd (false≢true s)

-- values enter a state as the best of them
pub after_merged : (k : ReductionKind) (t : DataType) (n : ℕ) (x : State) (vs : List Leaf) → skips_nulls k ≡ true
    → after k t x (numbered n vs) ≡ merge k t x (present (fold_of k t vs))
after_merged k t n x vs s =
    let none : start k t ≡ None = start-plain k t (not_a_sum k s) in
    after-is k t x (numbered n vs) (IsState-plain k t x none)
    ∙ ap (merge k t x) (ap (λ (y : State). after k t y (numbered n vs)) none ∙ after_best k t n leaves.Null vs s ∙ ap present (sym (fold_of_best k t vs s)))

pub out-present : (v : Leaf) → out (present v) ≡ v
out-present leaves.Null = refl
out-present (leaves.Bool b) = refl
out-present (leaves.Whole z) = refl
out-present (leaves.Bytes b) = refl

-- the best of two lists of values
pub fold_of-append : (k : ReductionKind) (t : DataType) (vs ws : List Leaf) → skips_nulls k ≡ true
    → fold_of k t (vs ++ ws) ≡ better (order_of k) (fold_of k t vs) (fold_of k t ws)
fold_of-append k t vs ws s =
    let both : present (fold_of k t (vs ++ ws)) ≡ present (better (order_of k) (fold_of k t vs) (fold_of k t ws)) =
    sym (after_merged k t 0 None (vs ++ ws) s) ∙ ap (after k t None) (map-append (λ (v : Leaf). record { number = 0; value = v }) vs ws)
    ∙ fold-append (λ x e. merge k t x (one k t e)) None (numbered 0 vs) (numbered 0 ws)
    ∙ after_merged k t 0 (after k t None (numbered 0 vs)) ws s
    ∙ ap (λ (x : State). merge k t x (present (fold_of k t ws))) (after_merged k t 0 None vs s)
    ∙ merged_present k t (fold_of k t vs) (fold_of k t ws) s in
    sym (out-present (fold_of k t (vs ++ ws))) ∙ ap out both ∙ out-present (better (order_of k) (fold_of k t vs) (fold_of k t ws))

-- a null changes nothing
pub merge-null : (k : ReductionKind) (t : DataType) (x : State) (v : Leaf) → v ≡ leaves.Null → merge k t x (present v) ≡ x
merge-null k t x v e = ap (λ (w : Leaf). merge k t x (present w)) e ∙ merge-none k t x

pub takes_null : (k : ReductionKind) (t : DataType) (n : ℕ) (x : State) (v : Leaf) → skips_nulls k ≡ true → v ≡ leaves.Null → merge k t x (one k t (record { number = n; value = v })) ≡ x
takes_null k t n x v s e = ap (merge k t x) (one_present k t n v s) ∙ merge-null k t x v e

pub none_left : {T : Type 0} (r : Option T) → ((x : T) → r ≡ Some x → ⊥) → r ≡ None
none_left None h = refl
none_left (Some x) h = absurd (h x refl)

-- what a kept number gives that stands for something
pub best_given : (start z : ℤ) (e : Entry) → IsBestSoFar start z (Some e) → leaves.Whole z ≡ e.value
best_given start z e (inl h) = sym (ap out h)
best_given start z e (inr h) = absurd (some_not_none h.0)
  where
    some_not_none : Some e ≡ None → ⊥
    some_not_none h = cc

-- what a kept value gives that stands for the state of a value or a null
pub given_some : (v : Leaf) (e : Entry) → Some e ≡ present v → v ≡ e.value
given_some v e h = sym (out-present v) ∙ sym (ap out h)

pub given_none : (v : Leaf) → None ≡ present v → v ≡ leaves.Null
given_none v h = sym (out-present v) ∙ sym (ap out h)

-- a value enters a state
pub entered : (k : ReductionKind) (t : DataType) (x y : State) (old w new : Leaf) → skips_nulls k ≡ true → x ≡ present old → y ≡ present w → new ≡ better (order_of k) old w → merge k t x y ≡ present new
entered k t x y old w new s p q e = rw (p, q) (merged_present k t old w s ∙ ap present (sym e))
