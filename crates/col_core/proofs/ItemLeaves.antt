-- The items of arrays, as values.
use Rattle.std.proofs.Common.{◌≡◌, ℕ, zero, suc, ◌+◌, ◌<◌, ℤ, Bool, true, false, not, cond, List, [], ◌∷◌, ◌++◌, map, length, take, drop, get_or, Some, None, option_and_then, slice_get, refl, sym, ap, ap₂, ◌∙◌, arith}
use Rattle.std.specs.List.{count_by, All}
use Rattle.std.proofs.lemmas.List.{map-append, length-map, get_or-map, take-map, drop-map}
use Rattle.std.proofs.lemmas.Result.{on_ok_weaker, IfOk-weaker}
use Rattle.std.proofs.lemmas.List.Elements.{All-nil, All-cons, All-head, All-tail}
use Rattle.std.specs.Prelude.{Result, OnOk, IfOk}
use Rattle.std.proofs.lemmas.List.Sums.{sum_by-cons}
use Rattle.col_arrays.specs.Items.{item_of, stored, presence, nulls, AreNumbers}
use Rattle.col_arrays.specs.Buffer.{AreBytes}
use Rattle.col_core.specs.declared.leaf.Leaf.{Leaf}
use Rattle.col_core.specs.declared.leaf.Leaf.TheVariants as leaves
use Rattle.col_core.specs.Physical.{IsTruth, IsNumber, HasBytes}
use Rattle.col_core.specs.Values.{value_at, is_null, item_leaf, number_leaf}
use Rattle.col_core.specs.Tables.{values_at}

-- the value at a place is that of the item
pub found_at : {T : Type 0} (leaf : T → Leaf) (items : List (T × Bool)) (i : ℕ) (x : T) → option_and_then item_of (slice_get items i) ≡ Some x → value_at (map (item_leaf leaf) items) i ≡ leaf x
found_at leaf [] i x h = cc
found_at leaf ((y, true) ∷ items) zero x h = let same : y ≡ x = cc in ap leaf same
found_at leaf ((y, false) ∷ items) zero x h = cc
found_at leaf (y ∷ items) (suc i) x h = found_at leaf items i x h

pub null_at : {T : Type 0} (leaf : T → Leaf) (items : List (T × Bool)) (i : ℕ) → option_and_then item_of (slice_get items i) ≡ None → value_at (map (item_leaf leaf) items) i ≡ leaves.Null
null_at leaf [] i h = refl
null_at leaf ((y, true) ∷ items) zero h = cc
null_at leaf ((y, false) ∷ items) zero h = refl
null_at leaf (y ∷ items) (suc i) h = null_at leaf items i h

-- an item more is a value more
pub leaves_push : {T : Type 0} (leaf : T → Leaf) (items more : List (T × Bool)) (x : T) (present : Bool) → more ≡ items ++ (x, present) ∷ [] → map (item_leaf leaf) more ≡ map (item_leaf leaf) items ++ cond present (leaf x) leaves.Null ∷ []
leaves_push leaf items more x present h = ap (map (item_leaf leaf)) h ∙ map-append (item_leaf leaf) items ((x, present) ∷ [])

-- nulls among items and among their values
pub nulls_counted : {T : Type 0} (leaf : T → Leaf) → ((x : T) → is_null (leaf x) ≡ false) → (items : List (T × Bool)) → count_by is_null (map (item_leaf leaf) items) ≡ nulls items
nulls_counted leaf h [] = refl
nulls_counted leaf h ((x, true) ∷ items) =
    sum_by-cons (λ v. cond (is_null v) 1 0) (leaf x) (map (item_leaf leaf) items)
    ∙ ap₂ (λ b n. cond b 1 0 + n) (h x) (nulls_counted leaf h items)
    ∙ sym (sum_by-cons (λ b. cond (not b) 1 0) true (presence items))
nulls_counted leaf h ((x, false) ∷ items) =
    sum_by-cons (λ v. cond (is_null v) 1 0) leaves.Null (map (item_leaf leaf) items)
    ∙ ap (λ n. 1 + n) (nulls_counted leaf h items)
    ∙ sym (sum_by-cons (λ b. cond (not b) 1 0) false (presence items))

pub null_truths : (items : List (Bool × Bool)) → count_by is_null (map (item_leaf (λ b. leaves.Bool b)) items) ≡ nulls items
null_truths items = nulls_counted (λ b. leaves.Bool b) (λ b. refl) items

pub null_numbers : {T : Type 0} (whole : T → ℤ) (items : List (T × Bool)) → count_by is_null (map (number_leaf whole) items) ≡ nulls items
null_numbers whole items = nulls_counted (λ x. leaves.Whole (whole x)) (λ x. refl) items

pub null_bytes : (items : List (List ℕ × Bool)) → count_by is_null (map (item_leaf (λ b. leaves.Bytes b)) items) ≡ nulls items
null_bytes items = nulls_counted (λ b. leaves.Bytes b) (λ b. refl) items

-- an item of other items, appended
moved : {T : Type 0} (leaf : T → Leaf) (items from more : List (T × Bool)) (i : ℕ) → ((d : T × Bool) → more ≡ items ++ get_or from i d ∷ []) → i < length (map (item_leaf leaf) from)
    → map (item_leaf leaf) more ≡ map (item_leaf leaf) items ++ value_at (map (item_leaf leaf) from) i ∷ []
moved leaf items [] more i h l = absurd (omega arith)
moved leaf items (x ∷ from) more i h l =
    let within : i < length (x ∷ from) = rw length-map at l in
    ap (map (item_leaf leaf)) (h x) ∙ map-append (item_leaf leaf) items (get_or (x ∷ from) i x ∷ [])
    ∙ ap (λ v. map (item_leaf leaf) items ++ v ∷ []) (sym (get_or-map (item_leaf leaf) (x ∷ from) i x leaves.Null within))

pub leaves_moved : {T E : Type 0} (r : Result (Unit {0}) E) (leaf : T → Leaf) (items from more : List (T × Bool)) (i : ℕ) → OnOk r ((d : T × Bool) → more ≡ items ++ get_or from i d ∷ []) → i < length (map (item_leaf leaf) from)
    → OnOk r (map (item_leaf leaf) more ≡ map (item_leaf leaf) items ++ value_at (map (item_leaf leaf) from) i ∷ [])
leaves_moved r leaf items from more i h l = on_ok_weaker r (λ is. moved leaf items from more i is l) h

-- a run of other items, appended
extended : {T : Type 0} (leaf : T → Leaf) (items from all : List (T × Bool)) (start len : ℕ) → all ≡ items ++ take len (drop start from)
    → map (item_leaf leaf) all ≡ map (item_leaf leaf) items ++ take len (drop start (map (item_leaf leaf) from))
extended leaf items from all start len h =
    ap (map (item_leaf leaf)) h ∙ map-append (item_leaf leaf) items (take len (drop start from))
    ∙ ap (λ vs. map (item_leaf leaf) items ++ vs) (sym (ap (take len) (drop-map (item_leaf leaf) start from) ∙ take-map (item_leaf leaf) len (drop start from)))

pub leaves_extended : {T E : Type 0} (r : Result (Unit {0}) E) (leaf : T → Leaf) (items from all : List (T × Bool)) (start len : ℕ) → OnOk r (all ≡ items ++ take len (drop start from))
    → OnOk r (map (item_leaf leaf) all ≡ map (item_leaf leaf) items ++ take len (drop start (map (item_leaf leaf) from)))
leaves_extended r leaf items from all start len h = on_ok_weaker r (λ is. extended leaf items from all start len is) h

-- the values of items can be kept where what is stored can
items_kept : {T : Type 0} (P : T → Type 0) (K : Leaf → Type 0) (leaf : T → Leaf) → K leaves.Null → ((x : T) → P x → K (leaf x)) → (items : List (T × Bool)) → All P (stored items) → All K (map (item_leaf leaf) items)
items_kept P K leaf null holds [] all = All-nil K
items_kept P K leaf null holds ((x, true) ∷ items) all = All-cons K (leaf x) (map (item_leaf leaf) items) (holds x (All-head P x (stored items) all)) (items_kept P K leaf null holds items (All-tail P x (stored items) all))
items_kept P K leaf null holds ((x, false) ∷ items) all = All-cons K leaves.Null (map (item_leaf leaf) items) null (items_kept P K leaf null holds items (All-tail P x (stored items) all))

pub truths_kept : (items : List (Bool × Bool)) → All IsTruth (map (item_leaf (λ b. leaves.Bool b)) items)
truths_kept items = items_kept (λ (b : Bool). Unit {0}) IsTruth (λ b. leaves.Bool b) tt (λ b h. tt) items (λ k d l. tt)

pub numbers_kept : {T : Type 0} (whole : T → ℤ) (Holds : ℤ → Type 0) (items : List (T × Bool)) → AreNumbers whole Holds (stored items) → All (IsNumber Holds) (map (number_leaf whole) items)
numbers_kept {T = T} whole Holds items all = items_kept (λ (x : T). Holds (whole x)) (IsNumber Holds) (λ x. leaves.Whole (whole x)) tt (λ x h. h) items all

pub bytes_kept : (items : List (List ℕ × Bool)) → All AreBytes (stored items) → All HasBytes (map (item_leaf (λ b. leaves.Bytes b)) items)
bytes_kept items all = items_kept AreBytes HasBytes (λ b. leaves.Bytes b) tt (λ b h. h) items all

-- the values of items at places
at_places : {T : Type 0} (leaf : T → Leaf) (items taken : List (T × Bool)) (places : List ℕ) → map Some taken ≡ map (slice_get items) places → map (item_leaf leaf) taken ≡ values_at (map (item_leaf leaf) items) places
at_places leaf items [] [] h = refl
at_places leaf items [] (p ∷ ps) h = cc
at_places leaf items (x ∷ xs) [] h = cc
at_places leaf items (x ∷ xs) (p ∷ ps) h =
    let here : Some x ≡ slice_get items p = cc in
    let rest : map Some xs ≡ map (slice_get items) ps = cc in
    ap₂ (λ v vs. v ∷ vs) (at_place items p x (sym here)) (at_places leaf items xs ps rest)
  where
    at_place : (ys : List (_ × Bool)) (i : ℕ) (y : _ × Bool) → slice_get ys i ≡ Some y → item_leaf leaf y ≡ value_at (map (item_leaf leaf) ys) i
    at_place [] i y e = cc
    at_place (z ∷ ys) zero y e = let same : z ≡ y = cc in ap (item_leaf leaf) (sym same)
    at_place (z ∷ ys) (suc i) y e = at_place ys i y e

pub leaves_taken : {T E : Type 0} (r : Result (List (T × Bool)) E) (leaf : T → Leaf) (items : List (T × Bool)) (places : List ℕ) → IfOk r (λ taken. map Some taken ≡ map (slice_get items) places)
    → IfOk r (λ taken. map (item_leaf leaf) taken ≡ values_at (map (item_leaf leaf) items) places)
leaves_taken r leaf items places h = IfOk-weaker r _ _ (λ taken is. at_places leaf items taken places is) h

-- numbers and nulls that are pushed
pub number_pushed : {T E : Type 0} (r : Result (Unit {0}) E) (whole : T → ℤ) (items more : List (T × Bool)) (x : T) (z : ℤ) (v : Leaf) → whole x ≡ z → v ≡ leaves.Whole z → OnOk r (more ≡ items ++ (x, true) ∷ [])
    → OnOk r (map (number_leaf whole) more ≡ map (number_leaf whole) items ++ v ∷ [])
number_pushed r whole items more x z v same is h =
    on_ok_weaker r (λ e. leaves_push (λ n. leaves.Whole (whole n)) items more x true e ∙ ap (λ u. map (number_leaf whole) items ++ u ∷ []) (ap (λ w. leaves.Whole w) same ∙ sym is)) h

pub null_pushed : {T E : Type 0} (r : Result (Unit {0}) E) (whole : T → ℤ) (items more : List (T × Bool)) (x : T) (v : Leaf) → v ≡ leaves.Null → OnOk r (more ≡ items ++ (x, false) ∷ [])
    → OnOk r (map (number_leaf whole) more ≡ map (number_leaf whole) items ++ v ∷ [])
null_pushed r whole items more x v is h =
    on_ok_weaker r (λ e. leaves_push (λ n. leaves.Whole (whole n)) items more x false e ∙ ap (λ u. map (number_leaf whole) items ++ u ∷ []) (sym is)) h

-- a number that is no whole number is null
pub only_null : (Holds : ℤ → Type 0) (v : Leaf) → IsNumber Holds v → ((z : ℤ) → v ≡ leaves.Whole z → ⊥) → v ≡ leaves.Null
only_null Holds leaves.Null k n = refl
only_null Holds (leaves.Bool b) k n = absurd k
only_null Holds (leaves.Whole z) k n = absurd (n z refl)
only_null Holds (leaves.Bytes b) k n = absurd k

pub ruleset arrays = (found_at, null_at, leaves_push, null_truths, null_numbers, null_bytes)
