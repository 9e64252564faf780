-- States of truth values, as values and states enter.
use Rattle.std.proofs.Common.{◌≡◌, ℕ, zero, suc, ◌+◌, ◌-◌, ◌<◌, ◌≤◌, Bool, true, false, if◌then◌else◌, ◌==◌, Option, Some, None, List, [], ◌∷◌, ◌++◌, length, map, take, get_or, replicate, refl, sym, ap, ap₂, subst, ◌∙◌, arith}
use Rattle.std.proofs.Math.ListN.{set}
use Rattle.std.proofs.lemmas.List.{length-map, map-set, map-append, take-map, get_or-map, take_all}
use Rattle.col_core.specs.declared.leaf.Leaf.{Leaf}
use Rattle.col_core.specs.declared.data_type.DataType.{DataType}
use Rattle.group_parts.specs.Parts.{dealt}
use Rattle.reduce_model.specs.declared.kind.ReductionKind.{ReductionKind}
use Rattle.reduce_model.specs.Folds.{better}
use Rattle.reduce_states.specs.States.{State, out, present, start, merge}
use Rattle.reduce_states.specs.Moves.{entered, cut_or_filled}
use Rattle.reduce_states.proofs.Merged.{start-plain}
use Rattle.reduce_states.proofs.Moved.{entered_more}
use Rattle.group_reduce.specs.Masked.{skips_nulls}
use Rattle.kept_values.specs.Kept.{truth_or_null}
use Rattle.reduce_min_max.specs.Best.{order_of}
use Rattle.reduce_min_max.specs.BestLaws.{not_a_sum}
use Rattle.reduce_min_max.specs.Truths.{truth_state, truth_states}
use Rattle.reduce_min_max.proofs.Best.{merged_present, out-present}

pub starts_none : (k : ReductionKind) (t : DataType) → skips_nulls k ≡ true → start k t ≡ None
starts_none k t s = start-plain k t (not_a_sum k s)

-- the state of a truth value at a place
pub state_at : (truths : List (Option Bool)) (i : ℕ) (d : State) → i < length truths → get_or (truth_states truths) i d ≡ truth_state (get_or truths i None)
state_at truths i d h = get_or-map truth_state truths i None d h

-- a truth value is written that is the better of two
pub state_set : (k : ReductionKind) (t : DataType) (truths new : List (Option Bool)) (g : ℕ) (truth kept : Option Bool) → skips_nulls k ≡ true → g < length truths
    → truth_or_null kept ≡ better (order_of k) (truth_or_null (get_or truths g None)) (truth_or_null truth) → new ≡ set truths g kept
    → truth_states new ≡ set (truth_states truths) g (merge k t (get_or (truth_states truths) g (start k t)) (truth_state truth))
state_set k t truths new g truth kept s h e f =
    let merged : truth_state kept ≡ merge k t (get_or (truth_states truths) g (start k t)) (truth_state truth) =
    ap present e ∙ sym (merged_present k t (truth_or_null (get_or truths g None)) (truth_or_null truth) s) ∙ ap (λ (x : State). merge k t x (truth_state truth)) (sym (state_at truths g (start k t) h)) in
    ap truth_states f ∙ map-set truth_state truths g kept ∙ ap (set (truth_states truths) g) merged

-- one more state has entered
pub entered_next : (k : ReductionKind) (t : DataType) (xs : List State) (gs : List ℕ) (ys : List State) (i : ℕ) (now new : List State) (y : State) → i < length gs → i < length ys
    → entered (start k t) (merge k t) xs (take i gs) (take i ys) ≡ now → y ≡ get_or ys i None → new ≡ set now (get_or gs i 0) (merge k t (get_or now (get_or gs i 0) (start k t)) y)
    → entered (start k t) (merge k t) xs (take (i + 1) gs) (take (i + 1) ys) ≡ new
entered_next k t xs gs ys i now new y h l e f n =
    let g = get_or gs i 0 in
    entered_more (start k t) (merge k t) xs gs ys i None h l
    ∙ ap (λ (zs : List State). set zs g (merge k t (get_or zs g (start k t)) (get_or ys i None))) e
    ∙ ap (λ (z : State). set now g (merge k t (get_or now g (start k t)) z)) (sym f) ∙ sym n

-- all have entered
pub entered_all : (k : ReductionKind) (t : DataType) (xs from : List State) (gs : List ℕ) (ys all now : List State) (i : ℕ) → xs ≡ from → ys ≡ all → length gs ≤ i → length all ≤ i
    → entered (start k t) (merge k t) from (take i gs) (take i all) ≡ now → entered (start k t) (merge k t) xs gs ys ≡ now
entered_all k t xs from gs ys all now i p q h l e =
    ap (λ (zs : List State). entered (start k t) (merge k t) zs gs ys) p ∙ ap (entered (start k t) (merge k t) from gs) q
    ∙ sym (ap (λ (hs : List ℕ). entered (start k t) (merge k t) from hs (take i all)) (take_all i gs h) ∙ ap (entered (start k t) (merge k t) from gs) (take_all i all l)) ∙ e

-- ---- cut or filled, dealt, and given

map_replicate : {A B : Type 0} (f : A → B) (n : ℕ) (d : A) → map f (replicate n d) ≡ replicate n (f d)
map_replicate f zero d = refl
map_replicate {B = B} f (suc n) d = ap (λ (xs : List B). f d ∷ xs) (map_replicate f n d)

pub resized_states : (k : ReductionKind) (t : DataType) (truths new : List (Option Bool)) (xs : List State) (n : ℕ) → skips_nulls k ≡ true → new ≡ cut_or_filled None truths n → xs ≡ truth_states truths
    → cut_or_filled (start k t) xs n ≡ truth_states new
resized_states k t truths new xs n s e h =
    ap (λ (d : State). cut_or_filled d xs n) (starts_none k t s)
    ∙ ap (λ (zs : List State). cut_or_filled None zs n) h
    ∙ ap (λ (m : ℕ). take n (truth_states truths) ++ replicate (n - m) None) (length-map truths truth_state)
    ∙ ap₂ (λ (ys zs : List State). ys ++ zs) (take-map truth_state n truths) (sym (map_replicate truth_state (n - length truths) None))
    ∙ sym (map-append truth_state (take n truths) (replicate (n - length truths) None))
    ∙ ap truth_states (sym e)

dealt_map : {A B : Type 0} (f : A → B) (p : ℕ) (is : List ℕ) (xs : List A) → dealt p is (map f xs) ≡ map f (dealt p is xs)
dealt_map f p [] xs = refl
dealt_map f p (i ∷ is) [] = refl
dealt_map {A} {B} f p (i ∷ is) (x ∷ xs) =
    let rest : dealt p is (map f xs) ≡ map f (dealt p is xs) = dealt_map f p is xs in
    elim (i == p) as (λ b. (if b then f x ∷ dealt p is (map f xs) else dealt p is (map f xs)) ≡ map f (if b then x ∷ dealt p is xs else dealt p is xs)) [ true ↦ ap (λ (ys : List B). f x ∷ ys) rest | false ↦ rest ]

pub dealt_states : (p : ℕ) (is : List ℕ) (truths part : List (Option Bool)) (xs : List State) → part ≡ dealt p is truths → xs ≡ truth_states truths → dealt p is xs ≡ truth_states part
dealt_states p is truths part xs e h = ap (dealt p is) h ∙ dealt_map truth_state p is truths ∙ ap truth_states (sym e)

pub given_states : (truths : List (Option Bool)) (xs : List State) → xs ≡ truth_states truths → map truth_or_null truths ≡ map out xs
given_states truths xs h = each truths ∙ ap (map out) (sym h)
  where
    each : (truths : List (Option Bool)) → map truth_or_null truths ≡ map out (truth_states truths)
    each [] = refl
    each (truth ∷ truths) = ap₂ (λ (v : Leaf) (vs : List Leaf). v ∷ vs) (sym (out-present (truth_or_null truth))) (each truths)
