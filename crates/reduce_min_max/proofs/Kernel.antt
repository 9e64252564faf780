-- What the kernel for least and greatest answers is the fold of the values.
use Rattle.std.proofs.Common.{◌≡◌, ◌⊎◌, inl, inr, ℕ, zero, suc, ◌<◌, ℤ, Bool, true, false, Option, Some, None, MatchOption, List, [], ◌∷◌, fold, map, length, get_or, refl, sym, ap, subst, ◌∙◌, arith}
use Rattle.std.proofs.lemmas.Bool.{false≢true}
use Rattle.std.proofs.lemmas.Int.{ints}
use Rattle.std.specs.List.{All, Contains}
use Rattle.std.specs.declared.cmp.Ordering.{Ordering}
use Rattle.col_core.specs.declared.leaf.Leaf.{Leaf}
use Rattle.col_core.specs.declared.leaf.Leaf.TheVariants as leaves
use Rattle.col_core.specs.declared.data_type.DataType.{DataType}
use Rattle.col_core.specs.Values.{number_leaf}
use Rattle.lane_kernels.specs.Positions.{present_values, IsBest}
use Rattle.reduce_model.specs.declared.kind.ReductionKind.{ReductionKind}
use Rattle.reduce_model.specs.declared.kind.ReductionKind.TheVariants as kinds
use Rattle.reduce_model.specs.Folds.{fold_of, better}
use Rattle.group_reduce.specs.Masked.{skips_nulls}
use Rattle.kept_values.specs.Kept.{number_or_null}
use Rattle.reduce_min_max.specs.Best.{order_of, better_whole, beats_of}
use Rattle.reduce_min_max.proofs.Best.{better_numbers, fold_of_best}

-- what nothing beats, nothing that is better than something beats
still_unbeaten : (k : ReductionKind) (a y m : ℤ) → beats_of k a m ≡ false → beats_of k y m ≡ false → beats_of k (better_whole k a y) m ≡ false
still_unbeaten kinds.Max a y m h i = grind (arith, ints)
still_unbeaten kinds.Min a y m h i = grind (arith, ints)
still_unbeaten kinds.Sum a y m h i = grind (arith, ints)
still_unbeaten kinds.First a y m h i = grind (arith, ints)
still_unbeaten kinds.Last a y m h i = grind (arith, ints)

-- an unbeaten one of two is the better of them
unbeaten_first : (k : ReductionKind) (a y : ℤ) → beats_of k y a ≡ false → a ≡ better_whole k a y
unbeaten_first kinds.Max a y h = grind (arith, ints)
unbeaten_first kinds.Min a y h = grind (arith, ints)
unbeaten_first kinds.Sum a y h = grind (arith, ints)
unbeaten_first kinds.First a y h = grind (arith, ints)
unbeaten_first kinds.Last a y h = grind (arith, ints)

unbeaten_second : (k : ReductionKind) (a y : ℤ) → beats_of k a y ≡ false → y ≡ better_whole k a y
unbeaten_second kinds.Max a y h = grind (arith, ints)
unbeaten_second kinds.Min a y h = grind (arith, ints)
unbeaten_second kinds.Sum a y h = grind (arith, ints)
unbeaten_second kinds.First a y h = grind (arith, ints)
unbeaten_second kinds.Last a y h = grind (arith, ints)

-- a whole number is one of the present ones
abbrev IsAmong : {T : Type 0} → (T → ℤ) → ℤ → List (T × Bool) → Type 0
IsAmong value m [] = ⊥
IsAmong value m ((y, present) ∷ items) = ((present ≡ true) × (m ≡ value y)) ⊎ IsAmong value m items

among : {T : Type 0} (value : T → ℤ) (items : List (T × Bool)) (k : ℕ) (x : T) → k < length (present_values items) → get_or (present_values items) k x ≡ x → IsAmong value (value x) items
among value [] k x h e = absurd (omega arith)
among value ((y, false) ∷ items) k x h e = inr (among value items k x h e)
among value ((y, true) ∷ items) zero x h e = inl (refl, ap value (sym e))
among value ((y, true) ∷ items) (suc k) x h e = inr (among value items k x (omega arith) e)

best_from : {T : Type 0} (k : ReductionKind) (value : T → ℤ) (a m : ℤ) (items : List (T × Bool)) → skips_nulls k ≡ true
    → All (λ y. beats_of k (value y) m ≡ false) (present_values items) → beats_of k a m ≡ false → (m ≡ a) ⊎ IsAmong value m items
    → fold (better (order_of k)) (leaves.Whole a) (map (number_leaf value) items) ≡ leaves.Whole m
best_from k value a m [] s u h (inl e) = ap leaves.Whole (sym e)
best_from k value a m [] s u h (inr e) = absurd e
best_from k value a m ((y, false) ∷ items) s u h (inl e) = best_from k value a m items s u h (inl e)
best_from k value a m ((y, false) ∷ items) s u h (inr (inl e)) = absurd (false≢true e.0)
best_from k value a m ((y, false) ∷ items) s u h (inr (inr e)) = best_from k value a m items s u h (inr e)
best_from {T} k value a m ((y, true) ∷ items) s u h e =
    let here : beats_of k (value y) m ≡ false = u 0 y (omega arith) in
    let rest : All (λ (z : T). beats_of k (value z) m ≡ false) (present_values items) = λ i d l. u (suc i) d (omega arith) in
    ap (λ (v : Leaf). fold (better (order_of k)) v (map (number_leaf value) items)) (better_numbers k a (value y) s)
    ∙ best_from k value (better_whole k a (value y)) m items s rest (still_unbeaten k a (value y) m h here) (next e here)
  where
    next : (m ≡ a) ⊎ IsAmong value m ((y, true) ∷ items) → beats_of k (value y) m ≡ false → (m ≡ better_whole k a (value y)) ⊎ IsAmong value m items
    next (inl e) b = inl (e ∙ unbeaten_first k a (value y) (subst (λ (z : ℤ). beats_of k (value y) z ≡ false) e b))
    next (inr (inl e)) b = inl (e.1 ∙ unbeaten_second k a (value y) (subst (λ (z : ℤ). beats_of k a z ≡ false) e.1 h))
    next (inr (inr e)) b = inr e

best_among : {T : Type 0} (k : ReductionKind) (value : T → ℤ) (m : ℤ) (items : List (T × Bool)) → skips_nulls k ≡ true
    → All (λ y. beats_of k (value y) m ≡ false) (present_values items) → IsAmong value m items
    → fold (better (order_of k)) leaves.Null (map (number_leaf value) items) ≡ leaves.Whole m
best_among k value m [] s u e = absurd e
best_among k value m ((y, false) ∷ items) s u (inl e) = absurd (false≢true e.0)
best_among k value m ((y, false) ∷ items) s u (inr e) = best_among k value m items s u e
best_among k value m ((y, true) ∷ items) s u (inl e) = best_from k value (value y) m items s (λ i d l. u (suc i) d (omega arith)) (u 0 y (omega arith)) (inl e.1)
best_among k value m ((y, true) ∷ items) s u (inr e) = best_from k value (value y) m items s (λ i d l. u (suc i) d (omega arith)) (u 0 y (omega arith)) (inr e)

none_among : {T : Type 0} (R : Leaf → Leaf → Ordering) (value : T → ℤ) (items : List (T × Bool)) → present_values items ≡ [] → fold (better R) leaves.Null (map (number_leaf value) items) ≡ leaves.Null
none_among R value [] h = refl
none_among R value ((y, false) ∷ items) h = none_among R value items h
none_among R value ((y, true) ∷ items) h = absurd (cc)

-- the best of the present numbers, or nothing where there is none
pub best_is_fold : {T : Type 0} (k : ReductionKind) (t : DataType) (value : T → ℤ) (items : List (T × Bool)) (r : Option T) → skips_nulls k ≡ true
    → MatchOption r (present_values items ≡ []) (IsBest (beats_of k) value (present_values items)) → number_or_null value r ≡ fold_of k t (map (number_leaf value) items)
best_is_fold k t value items None s h = sym (fold_of_best k t (map (number_leaf value) items) s ∙ none_among (order_of k) value items h)
best_is_fold k t value items (Some x) s h = sym (fold_of_best k t (map (number_leaf value) items) s ∙ best_among k value (value x) items s h.unbeaten (among value items h.among.0 x h.among.1 h.among.2))
