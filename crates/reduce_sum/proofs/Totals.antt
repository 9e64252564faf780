-- Totals as states, as numbers are added to them.
use Rattle.std.proofs.Common.{◌≡◌, ◌+ℤ◌, ℕ, ◌+◌, ◌<◌, ◌≤◌, ℤ, pos, ◌==◌, Bool, true, false, if◌then◌else◌, Some, None, option_and_then, slice_get, All, List, [], ◌∷◌, ◌++◌, map, fold, length, take, get_or, refl, sym, ap, ap₂, subst, ◌∙◌}
use Rattle.std.proofs.Math.ListN.{set}
use Rattle.std.proofs.lemmas.List.{map-set, map-append, length-map, get_or-map, take_more}
use Rattle.std.proofs.lemmas.List.Elements.{All-head, All-tail}
use Rattle.std.proofs.lemmas.List.Sums.{fold-append}
use Rattle.col_core.specs.declared.leaf.Leaf.{Leaf}
use Rattle.col_core.specs.declared.leaf.Leaf.TheVariants as leaves
use Rattle.col_core.specs.declared.data_type.DataType.{DataType}
use Rattle.col_arrays.specs.Items.{all_present, item_of}
use Rattle.col_core.specs.Physical.{IsNumber}
use Rattle.col_core.proofs.ItemLeaves.{found_at, null_at}
use Rattle.col_core.specs.Values.{value_at, number_leaf}
use Rattle.reduce_model.specs.declared.kind.ReductionKind.TheVariants.{Sum}
use Rattle.reduce_model.specs.Folds.{sum_leaf, wrap_in}
use Rattle.group_parts.specs.Parts.{dealt}
use Rattle.reduce_states.specs.States.{Entry, State, unnumbered, amount, total, out, start, one, merge, after}
use Rattle.reduce_states.specs.Moves.{entered, cut_or_filled, numbered, states_at}
use Rattle.reduce_states.proofs.Wrapped.{summed-add_left, summed-add_right, wrap_in-wrap_in}
use Rattle.reduce_states.proofs.Moved.{entered_more, cut_or_filled-more, get_or-states_at}
use Rattle.reduce_sum.specs.Sums.{WrapsAs, total_states}

-- two totals make the total of both
merge-total : (t : DataType) (a b : ℤ) → merge Sum t (total t a) (total t b) ≡ total t (a +ℤ b)
merge-total t a b = ap (λ (v : Leaf). Some (unnumbered v)) (summed-add_left t a (amount (sum_leaf t (wrap_in t b))) ∙ summed-add_right t a b)

-- a total that has wrapped is the same state
total-wrap : (wrap : ℤ → ℤ) (t : DataType) (z : ℤ) → WrapsAs wrap t → total t (wrap z) ≡ total t z
total-wrap wrap t z w = ap (total t) (sym (w z)) ∙ ap (λ (y : ℤ). Some (unnumbered (sum_leaf t y))) (wrap_in-wrap_in t z)

-- a number that is added is merged
pub total-added : (wrap : ℤ → ℤ) (t : DataType) (a b sum : ℤ) → WrapsAs wrap t → sum ≡ wrap (a +ℤ b) → merge Sum t (total t a) (total t b) ≡ total t sum
total-added wrap t a b sum w e = merge-total t a b ∙ sym (ap (total t) e ∙ total-wrap wrap t (a +ℤ b) w)

-- ---- a number is added to the total of a group

pub states_next : {T : Type 0} (value : T → ℤ) (wrap : ℤ → ℤ) (t : DataType) (totals : List T) (xs : List State) (gs : List ℕ) (ys : List State) (i : ℕ) (old new : T) (z : ℤ)
    → WrapsAs wrap t
    → total_states value t totals ≡ entered (start Sum t) (merge Sum t) xs (take i gs) (take i ys)
    → i < length gs → i < length ys → get_or gs i 0 < length totals
    → old ≡ get_or totals (get_or gs i 0) old → total t z ≡ get_or ys i None → value new ≡ wrap (value old +ℤ z)
    → total_states value t (set totals (get_or gs i 0) new) ≡ entered (start Sum t) (merge Sum t) xs (take (i + 1) gs) (take (i + 1) ys)
states_next {T} value wrap t totals xs gs ys i old new z w now p q here is given e =
    let state : T → State = λ (x : T). total t (value x) in
    let g = get_or gs i 0 in
    let M = merge Sum t in
    let zs = entered (start Sum t) M xs (take i gs) (take i ys) in
    let mine : get_or zs g (start Sum t) ≡ state old =
    ap (λ (s : List State). get_or s g (start Sum t)) (sym now) ∙ get_or-map state totals g old (start Sum t) here ∙ ap state (sym is) in
    map-set state totals g new
    ∙ ap (λ (s : List State). set s g (state new)) now
    ∙ ap (set zs g) (sym (total-added wrap t (value old) z (value new) w e) ∙ ap (λ (s : State). M s (total t z)) (sym mine) ∙ ap (M (get_or zs g (start Sum t))) given)
    ∙ sym (entered_more (start Sum t) M xs gs ys i None p q)

-- ---- a number is added to one total

pub after_next : (wrap : ℤ → ℤ) (t : DataType) (s : State) (n : ℕ) (vs : List Leaf) (i : ℕ) (a sum : ℤ)
    → WrapsAs wrap t → i < length vs → total t a ≡ after Sum t s (numbered n (take i vs)) → sum ≡ wrap (a +ℤ amount (value_at vs i))
    → total t sum ≡ after Sum t s (numbered n (take (i + 1) vs))
after_next wrap t s n vs i a sum w p now e =
    let v = value_at vs i in
    let entry : Leaf → Entry = λ (x : Leaf). record { number = n; value = x } in
    let step : State → Entry → State = λ (x : State) (y : Entry). merge Sum t x (one Sum t y) in
    sym (total-added wrap t a (amount v) sum w e)
    ∙ ap (λ (x : State). merge Sum t x (total t (amount v))) now
    ∙ sym (fold-append step s (map entry (take i vs)) (entry v ∷ []))
    ∙ ap (fold step s) (sym (more entry))
  where
    more : (f : Leaf → Entry) → map f (take (i + 1) vs) ≡ map f (take i vs) ++ f (value_at vs i) ∷ []
    more f = ap (map f) (take_more vs i leaves.Null p) ∙ map-append f (take i vs) (value_at vs i ∷ [])

-- ---- the number of an item

pub number_found : {S : Type 0} (value : S → ℤ) (fits : ℤ → Type 0) (items : List (S × Bool)) (i : ℕ) (x : S) (z : ℤ) → option_and_then item_of (slice_get items i) ≡ Some x → z ≡ value x → i < length items
    → All (IsNumber fits) (map (number_leaf value) items) → fits z × (z ≡ amount (value_at (map (number_leaf value) items) i))
number_found {S} value fits items i x z at e lt all =
    let leaf : value_at (map (number_leaf value) items) i ≡ leaves.Whole z = found_at (λ (y : S). leaves.Whole (value y)) items i x at ∙ ap leaves.Whole (sym e) in
    let inside : i < length (map (number_leaf value) items) = rw (length-map items (number_leaf value)) lt in
    (subst (IsNumber fits) leaf (all i leaves.Null inside), sym (ap amount leaf))

pub number_missing : {S : Type 0} (value : S → ℤ) (items : List (S × Bool)) (i : ℕ) → option_and_then item_of (slice_get items i) ≡ None → pos 0 ≡ amount (value_at (map (number_leaf value) items) i)
number_missing {S} value items i at = sym (ap amount (null_at (λ (y : S). leaves.Whole (value y)) items i at))

-- ---- a total at a place

pub total_at : {T : Type 0} (value : T → ℤ) (t : DataType) (totals : List T) (i : ℕ) (x : T) (d : State) → i < length totals → x ≡ get_or totals i x → total t (value x) ≡ get_or (total_states value t totals) i d
total_at {T} value t totals i x d lt is = ap (λ (y : T). total t (value y)) is ∙ sym (get_or-map (λ (y : T). total t (value y)) totals i x d lt)

pub total_at_some : {T : Type 0} (value : T → ℤ) (t : DataType) (totals : List T) (gs : List ℕ) (i : ℕ) (x : T) (d : State) → i < length gs → get_or gs i 0 < length totals → x ≡ get_or totals (get_or gs i 0) x
    → total t (value x) ≡ get_or (states_at Sum t (total_states value t totals) gs) i d
total_at_some value t totals gs i x d lt inside is = total_at value t totals (get_or gs i 0) x (start Sum t) inside is ∙ sym (get_or-states_at Sum t (total_states value t totals) gs i d lt)

-- a total of nothing at the end
pub total_states-more : {T : Type 0} (value : T → ℤ) (t : DataType) (totals more : List T) (xs : List State) (n : ℕ) (zero : T) → value zero ≡ pos 0 → length totals ≡ n → length xs ≤ n → more ≡ totals ++ zero ∷ []
    → total_states value t totals ≡ cut_or_filled (start Sum t) xs n → total_states value t more ≡ cut_or_filled (start Sum t) xs (n + 1)
total_states-more {T} value t totals more xs n zero z l few e now =
    ap (total_states value t) e ∙ map-append (λ (x : T). total t (value x)) totals (zero ∷ [])
    ∙ ap (λ (ys : List State). ys ++ total t (value zero) ∷ []) now
    ∙ ap (λ (y : ℤ). cut_or_filled (start Sum t) xs n ++ total t y ∷ []) z
    ∙ sym (cut_or_filled-more (start Sum t) xs n few)

-- values have entered one total
pub entered_at-total : {T : Type 0} (value : T → ℤ) (t : DataType) (totals : List T) (xs : List State) (g : ℕ) (old new : T) (es : List Entry) → xs ≡ total_states value t totals → g < length totals → old ≡ get_or totals g old
    → total t (value new) ≡ after Sum t (total t (value old)) es → set xs g (after Sum t (get_or xs g (start Sum t)) es) ≡ total_states value t (set totals g new)
entered_at-total {T} value t totals xs g old new es h lt is e =
    let state : T → State = λ (x : T). total t (value x) in
    let zs = total_states value t totals in
    ap (λ (s : List State). set s g (after Sum t (get_or s g (start Sum t)) es)) h
    ∙ ap (λ (s : State). set zs g (after Sum t s es)) (get_or-map state totals g old (start Sum t) lt ∙ ap state (sym is))
    ∙ ap (set zs g) (sym e)
    ∙ sym (map-set state totals g new)

pub dealt-map : {A B : Type 0} (f : A → B) (p : ℕ) (is : List ℕ) (xs : List A) → dealt p is (map f xs) ≡ map f (dealt p is xs)
dealt-map f p [] xs = refl
dealt-map f p (i ∷ is) [] = refl
dealt-map {A} {B} f p (i ∷ is) (x ∷ xs) =
    let rest : dealt p is (map f xs) ≡ map f (dealt p is xs) = dealt-map f p is xs in
    elim (i == p) as (λ b. (if b then f x ∷ dealt p is (map f xs) else dealt p is (map f xs)) ≡ map f (if b then x ∷ dealt p is xs else dealt p is xs)) [
      | true ↦ ap (λ (ys : List B). f x ∷ ys) rest
      | false ↦ rest
    ]

-- ---- totals as values

-- what totals give as states is what they are as values
pub outs : {T : Type 0} (value : T → ℤ) (wrap : ℤ → ℤ) (P : Leaf → Type 0) (t : DataType) (totals : List T) → WrapsAs wrap t → ((z : ℤ) → sum_leaf t z ≡ leaves.Whole z) → ((z : ℤ) → P (leaves.Whole z) → wrap z ≡ z)
    → All P (map (λ x. leaves.Whole (value x)) totals) → map (λ x. leaves.Whole (value x)) totals ≡ map out (total_states value t totals)
outs value wrap P t [] w s same all = refl
outs {T} value wrap P t (x ∷ totals) w s same all =
    let here : P (leaves.Whole (value x)) = All-head P (leaves.Whole (value x)) (map (λ (y : T). leaves.Whole (value y)) totals) all in
    ap₂ (λ (v : Leaf) (vs : List Leaf). v ∷ vs)
    (ap leaves.Whole (sym (w (value x) ∙ same (value x) here)) ∙ sym (s (wrap_in t (value x))))
    (outs value wrap P t totals w s same (All-tail P (leaves.Whole (value x)) (map (λ (y : T). leaves.Whole (value y)) totals) all))

pub leaves-all_present : {T : Type 0} (value : T → ℤ) (xs : List T) → map (number_leaf value) (all_present xs) ≡ map (λ x. leaves.Whole (value x)) xs
leaves-all_present value [] = refl
leaves-all_present value (x ∷ xs) = ap (λ (vs : List Leaf). leaves.Whole (value x) ∷ vs) (leaves-all_present value xs)

pub ruleset presents = (leaves-all_present)
