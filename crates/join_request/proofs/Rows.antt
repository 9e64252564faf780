-- Rows that are read, and the columns that are read of them.
use denote.Ref.{Bor}
use Rattle.std.proofs.Common.{◌≡◌, ◌<◌, ◌≤◌, ◌+◌, ◌&&◌, ℕ, zero, suc, Bool, true, false, List, [], ◌∷◌, ◌++◌, length, map, take, drop, get_or, add-one, drop-cons, append_assoc, Option, Some, None, IsSome, option_map, option_and_then, slice_get, refl, sym, ap, ◌∙◌, subst, arith, true≢false, inl, inr}
use Rattle.std.specs.List.{All}
use Rattle.std.proofs.lemmas.List.{length-map, get_or-map, map-append, take_more, drop_more}
use Rattle.std.proofs.lemmas.List.Elements.{All-nil, All-cons}
use Rattle.std.proofs.lemmas.Bool.{ne_eqb}
use Rattle.std.proofs.lemmas.Bool.Decides.{nat_tests}
use Rattle.serde_json.specs.Data.{Data, null, boolean, number, string, array, object, Items, no_items, item}
use Rattle.serde_json.specs.Find.{as_array, get_item}
use Rattle.serde_json.specs.View.{view, items_of, items_view}
use Rattle.serde_json.specs.declared.value.Value.{Value}
use Rattle.col_core.specs.declared.leaf.Leaf.{Leaf}
use Rattle.col_core.specs.declared.schema.Field.{Field}
use Rattle.col_core.specs.Values.{value_at}
use Rattle.col_core.specs.Tables.{Row, Growing, column_of}
use Rattle.list_laws.proofs.Halves.{both as both_true}
use Rattle.join_request.specs.Json.{each}
use Rattle.join_request.specs.Refused.{Refuses}
use Rattle.join_request.specs.declared.error.RequestError.{RequestError}
use Rattle.join_request.specs.Leaves.{leaf_of_value}
use Rattle.join_request.specs.Frames.{row_of_items, row_of_value}
use Rattle.join_request.specs.Columns.{leaf_in, item_count, is_wide, are_wide, row_views, grown}

pub item_count_of : (vs : List Value) → item_count (items_view vs) ≡ length vs
item_count_of [] = refl
item_count_of (v ∷ vs) = rw (item_count_of vs) (omega arith)

-- a list, and the items at its places
pub array_of : (d : Data) (ds : Items) → as_array d ≡ Some ds → d ≡ array ds
array_of null ds e = absurd (cc)
array_of (boolean b) ds e = absurd (cc)
array_of (number n) ds e = absurd (cc)
array_of (string s) ds e = absurd (cc)
array_of (array x) ds e = cc
array_of (object ms) ds e = absurd (cc)

pub ruleset widths = (item_count_of, array_of)

pub item_at : (vs : List Value) (i : ℕ) (v : Value) → i < length vs → v ≡ get_or vs i v → get_item i (items_view vs) ≡ Some (view v)
item_at [] i v h is = absurd (omega arith)
item_at (x ∷ vs) zero v h is = ap (λ (y : Value). Some (view y)) (sym is)
item_at (x ∷ vs) (suc i) v h is = item_at vs i v (omega arith) is

pub item_past : (vs : List Value) (i : ℕ) → length vs ≤ i → get_item i (items_view vs) ≡ None
item_past [] i h = refl
item_past (x ∷ vs) zero h = absurd (omega arith)
item_past (x ∷ vs) (suc i) h = item_past vs i (omega arith)

-- what a step that was followed by a second one gave, and the second one
both : {A B C : Type 0} (o : Option A) (r : Option B) (f : A → B → C) (y : C) → option_and_then (λ x. option_map (f x) r) o ≡ Some y → (x : A) × (z : B) × (o ≡ Some x) × (r ≡ Some z) × (f x z ≡ y)
both None r f y e = absurd (cc)
both (Some x) None f y e = absurd (cc)
both (Some x) (Some z) f y e = (x, z, refl, refl, cc)

-- each value of a row that was read is read of its item
at_row : (fields : List Field) (ds : Items) (row : Row) (i : ℕ) (f : Field) → row_of_items fields ds ≡ Some row → slice_get fields i ≡ Some f → option_and_then (leaf_of_value f.dtype) (get_item i ds) ≡ Some (value_at row i)
at_row [] ds row i f e g = absurd (cc)
at_row (h ∷ fs) no_items row i f e g = absurd (cc)
at_row (h ∷ fs) (item d ds) row zero f e g =
    let b = both (leaf_of_value h.dtype d) (row_of_items fs ds) (λ v vs. v ∷ vs) row e in
    let same : h ≡ f = cc in
    subst (λ (x : Row). leaf_of_value f.dtype d ≡ Some (value_at x 0)) b.4 (subst (λ (x : Field). leaf_of_value x.dtype d ≡ Some b.0) same b.2)
at_row (h ∷ fs) (item d ds) row (suc i) f e g =
    let b = both (leaf_of_value h.dtype d) (row_of_items fs ds) (λ v vs. v ∷ vs) row e in
    subst (λ (x : Row). option_and_then (leaf_of_value f.dtype) (get_item i ds) ≡ Some (value_at x (suc i))) b.4 (at_row fs ds b.1 i f b.3 g)

-- a row that was read has a value for each field, and its list an item
row_width : (fields : List Field) (ds : Items) (row : Row) → row_of_items fields ds ≡ Some row → (length row ≡ length fields) × (item_count ds ≡ length fields)
row_width [] no_items row e = let same : [] ≡ row = cc in (ap length (sym same), refl)
row_width [] (item d ds) row e = absurd (cc)
row_width (f ∷ fs) no_items row e = absurd (cc)
row_width (f ∷ fs) (item d ds) row e =
    let b = both (leaf_of_value f.dtype d) (row_of_items fs ds) (λ v vs. v ∷ vs) row e in
    let w = row_width fs ds b.1 b.3 in
    let long : length (b.0 ∷ b.1) ≡ length row = ap length b.4 in (omega (arith, w.0, long), omega (arith, w.1))

-- a list with an item for each field is a row, where each item is a value of its field
some_both : {A B C : Type 0} (o : Option A) (r : Option B) (f : A → B → C) → IsSome o → IsSome r → IsSome (option_and_then (λ x. option_map (f x) r) o)
some_both None r f p q = p
some_both (Some x) None f p q = q
some_both (Some x) (Some z) f p q = refl

some_row : (fields : List Field) (ds : Items) → item_count ds ≡ length fields → ((i : ℕ) (f : Field) → slice_get fields i ≡ Some f → IsSome (option_and_then (leaf_of_value f.dtype) (get_item i ds))) → IsSome (row_of_items fields ds)
some_row [] no_items w h = refl
some_row [] (item d ds) w h = absurd (omega arith)
some_row (f ∷ fs) no_items w h = absurd (omega arith)
some_row (f ∷ fs) (item d ds) w h = some_both (leaf_of_value f.dtype d) (row_of_items fs ds) (λ v vs. v ∷ vs) (h 0 f refl) (some_row fs ds (omega arith) (λ i g e. h (suc i) g e))

-- a value that is a list, and its items
list_read : {A : Type 0} (d : Data) (f : Items → Option A) (x : A) → option_and_then f (as_array d) ≡ Some x → (ds : Items) × (d ≡ array ds) × (f ds ≡ Some x)
list_read null f x e = absurd (cc)
list_read (boolean b) f x e = absurd (cc)
list_read (number n) f x e = absurd (cc)
list_read (string s) f x e = absurd (cc)
list_read (array ds) f x e = (ds, refl, e)
list_read (object ms) f x e = absurd (cc)

-- the column of a place, of rows that were read
pub column_read : (schema : List Field) (ds : Items) (rows : List Row) (i : ℕ) (f : Field) → each (row_of_value schema) ds ≡ Some rows → slice_get schema i ≡ Some f → each (leaf_in i f.dtype) ds ≡ Some (column_of i rows)
column_read schema no_items rows i f e g = let same : [] ≡ rows = cc in subst (λ (x : List Row). Some [] ≡ Some (column_of i x)) same refl
column_read schema (item d ds) rows i f e g =
    let b = both (row_of_value schema d) (each (row_of_value schema) ds) (λ v vs. v ∷ vs) rows e in
    let l = list_read d (row_of_items schema) b.0 b.2 in
    let head = at_row schema l.0 b.0 i f l.2 g in
    let tail = column_read schema ds b.1 i f b.3 g in
    subst (λ (x : List Row). each (leaf_in i f.dtype) (item d ds) ≡ Some (column_of i x)) b.4
    (subst (λ (x : Data). each (leaf_in i f.dtype) (item x ds) ≡ Some (column_of i (b.0 ∷ b.1))) (sym l.1) (rw (head, tail) refl))

-- rows that were read have a value for each field, and their lists an item
pub widths_read : (schema : List Field) (ds : Items) (rows : List Row) → each (row_of_value schema) ds ≡ Some rows → All (λ (row : Row). length row ≡ length schema) rows × (are_wide (length schema) ds ≡ true)
widths_read schema no_items rows e = let same : [] ≡ rows = cc in (subst (All (λ (row : Row). length row ≡ length schema)) same (All-nil _), refl)
widths_read schema (item d ds) rows e =
    let P : Row → Type 0 = λ row. length row ≡ length schema in
    let b = both (row_of_value schema d) (each (row_of_value schema) ds) (λ v vs. v ∷ vs) rows e in
    let l = list_read d (row_of_items schema) b.0 b.2 in
    let w = row_width schema l.0 b.0 l.2 in
    let rest = widths_read schema ds b.1 b.3 in (
      subst (All P) b.4 (All-cons P b.0 b.1 w.0 rest.0),
      subst (λ (x : Data). is_wide (length schema) x && are_wide (length schema) ds ≡ true) (sym l.1) (rw (w.1, rest.1) (grind (arith, nat_tests))),
    )

-- rows of which one is not as wide, or has no value at a place, are not read
none_of : {A : Type 0} (o : Option A) → ((x : A) → o ≡ Some x → ⊥) → o ≡ None
none_of None h = refl
none_of (Some x) h = absurd (h x refl)

pub none_if_narrow : (schema : List Field) (ds : Items) → are_wide (length schema) ds ≡ false → each (row_of_value schema) ds ≡ None
none_if_narrow schema ds h = none_of (each (row_of_value schema) ds) (λ rows e. absurd (true≢false (sym (widths_read schema ds rows e).1 ∙ h)))

pub none_if_column : (schema : List Field) (ds : Items) (i : ℕ) (f : Field) → slice_get schema i ≡ Some f → each (leaf_in i f.dtype) ds ≡ None → each (row_of_value schema) ds ≡ None
none_if_column schema ds i f g h = none_of (each (row_of_value schema) ds) (λ rows e. let never = sym (column_read schema ds rows i f e g) ∙ h in cc)

-- rows that are as wide are read, where a value is read at each place
some_parts : {A B C : Type 0} (o : Option A) (r : Option B) (f : A → B → C) → IsSome (option_and_then (λ x. option_map (f x) r) o) → IsSome o × IsSome r
some_parts None r f h = (h, absurd (cc))
some_parts (Some x) None f h = (refl, h)
some_parts (Some x) (Some z) f h = (refl, refl)

wide_list : (n : ℕ) (d : Data) → is_wide n d ≡ true → (ds : Items) × (d ≡ array ds) × (item_count ds ≡ n)
wide_list n null h = absurd (cc)
wide_list n (boolean b) h = absurd (cc)
wide_list n (number x) h = absurd (cc)
wide_list n (string s) h = absurd (cc)
wide_list n (array ds) h = (ds, refl, grind (arith, nat_tests))
wide_list n (object ms) h = absurd (cc)

pub some_rows : (schema : List Field) (ds : Items) → are_wide (length schema) ds ≡ true → ((i : ℕ) (f : Field) → slice_get schema i ≡ Some f → IsSome (each (leaf_in i f.dtype) ds)) → IsSome (each (row_of_value schema) ds)
some_rows schema no_items w h = refl
some_rows schema (item d ds) w h =
    let wide = both_true (is_wide (length schema) d) (are_wide (length schema) ds) w in
    let l = wide_list (length schema) d wide.0 in
    let here : (i : ℕ) (f : Field) → slice_get schema i ≡ Some f → IsSome (leaf_in i f.dtype d) = λ i f e. (some_parts (leaf_in i f.dtype d) (each (leaf_in i f.dtype) ds) (λ v vs. v ∷ vs) (h i f e)).0 in
    let row : IsSome (row_of_value schema d) = subst (λ (x : Data). IsSome (row_of_value schema x)) (sym l.1) (some_row schema l.0 l.2 (λ i f e. subst (λ (x : Data). IsSome (leaf_in i f.dtype x)) l.1 (here i f e))) in
    some_both (row_of_value schema d) (each (row_of_value schema) ds) (λ v vs. v ∷ vs) row
    (some_rows schema ds wide.1 (λ i f e. (some_parts (leaf_in i f.dtype d) (each (leaf_in i f.dtype) ds) (λ v vs. v ∷ vs) (h i f e)).1))

-- for the columns of rows
pub got : {A : Type 0} (xs : List A) (i : ℕ) (x : A) → slice_get xs i ≡ Some x → (i < length xs) × (get_or xs i x ≡ x)
got [] i x e = absurd (cc)
got (y ∷ ys) zero x e = (omega arith, cc)
got (y ∷ ys) (suc i) x e = let r = got ys i x e in (omega (arith, r.0), r.1)

pub some_value : {A : Type 0} (o : Option A) → IsSome o → (x : A) × (o ≡ Some x)
some_value None h = absurd (cc)
some_value (Some x) h = (x, refl)

pub each_length : {A : Type 0} (f : Data → Option A) (ds : List Data) (xs : List A) → each f (items_of ds) ≡ Some xs → length xs ≡ length ds
each_length f [] xs e = let same : [] ≡ xs = cc in ap length (sym same)
each_length {A = A} f (d ∷ ds) xs e =
    let b = both (f d) (each f (items_of ds)) (λ (x : A) (ys : List A). x ∷ ys) xs e in
    let long : length (b.0 ∷ b.1) ≡ length xs = ap length b.4 in
    omega (arith, each_length f ds b.1 b.3, long)

pub refused_column : (schema : List Field) (ds : Items) (i : ℕ) (f : Field) → slice_get schema i ≡ Some f → (e : RequestError) → Refuses (each (leaf_in i f.dtype) ds) e → Refuses (each (row_of_value schema) ds) e
refused_column schema ds i f g e (inl memory) = inl memory
refused_column schema ds i f g e (inr shape) = inr (shape.0, none_if_column schema ds i f g shape.1)

-- a column with the value of one more row
pub one_more : (f : Data → Option Leaf) (ds : List Data) (i : ℕ) (d : Data) (column next : Growing) → i < length ds → d ≡ get_or ds i d → option_map (grown column) (f d) ≡ Some next → (next.dtype ≡ column.dtype) × (option_map (λ rest. column.values ++ rest) (each f (items_of (drop i ds))) ≡ option_map (λ rest. next.values ++ rest) (each f (items_of (drop (i + 1) ds))))
one_more f ds i d column next h is e = rw (add-one, drop-cons ds i d, ← is) (split (f d) (each f (items_of (drop (suc i) ds))) e)
  where
    split : (o : Option Leaf) (r : Option (List Leaf)) → option_map (grown column) o ≡ Some next → (next.dtype ≡ column.dtype) × (option_map (λ rest. column.values ++ rest) (option_and_then (λ x. option_map (λ xs. x ∷ xs) r) o) ≡ option_map (λ rest. next.values ++ rest) r)
    split None r e = absurd (cc)
    split (Some x) None e = let same : grown column x ≡ next = cc in (ap (λ (g : Growing). g.dtype) (sym same), refl)
    split (Some x) (Some xs) e = let same : grown column x ≡ next = cc in (ap (λ (g : Growing). g.dtype) (sym same), subst (λ (g : Growing). Some (column.values ++ x ∷ xs) ≡ Some (g.values ++ xs)) same (rw append_assoc refl))

-- the view of a row among the views of rows
pub row_view_at : (rows : List (List Value)) (i : ℕ) (row : List Value) → i < length rows → row ≡ get_or rows i row → (i < length (row_views rows)) × (array (items_view row) ≡ get_or (row_views rows) i (array (items_view row)))
row_view_at rows i row h is =
    let seen : List Value → Data = λ items. array (items_view items) in
    (rw (length-map rows seen) h, ap seen is ∙ sym (get_or-map seen rows i row (seen row) h))

-- a row that is a list of as many items, taken as its items
pub wider : (wide : List (Bor (List Value))) (rows : List Value) (i n : ℕ) (row : Value) (row_items : Bor (List Value)) → i < length rows → row ≡ get_or rows i row → as_array (view row) ≡ Some (items_view row_items.now) → length row_items.now ≡ n
    → row_views (map (λ (r : Bor (List Value)). r.now) wide) ≡ map view (take i rows) → are_wide n (items_view rows) ≡ are_wide n (items_view (drop i rows))
    → (row_views (map (λ (r : Bor (List Value)). r.now) (wide ++ row_items ∷ [])) ≡ map view (take (i + 1) rows)) × (are_wide n (items_view rows) ≡ are_wide n (items_view (drop (i + 1) rows)))
wider wide rows i n row row_items h is list long so_far rest =
    let now : Bor (List Value) → List Value = λ r. r.now in
    let seen : List Value → Data = λ vs. array (items_view vs) in
    let view_is : view row ≡ array (items_view row_items.now) = array_of (view row) (items_view row_items.now) list in
    let left : Items = items_view (drop (i + 1) rows) in
    let as_wide : is_wide n (array (items_view row_items.now)) ≡ true = rw (item_count_of row_items.now, long) (grind (arith, nat_tests)) in (
      ap row_views (map-append now wide (row_items ∷ []))
          ∙ map-append seen (map now wide) (row_items.now ∷ [])
          ∙ ap (λ (ds : List Data). ds ++ seen row_items.now ∷ []) so_far
          ∙ ap (λ (d : Data). map view (take i rows) ++ d ∷ []) (sym view_is)
          ∙ sym (map-append view (take i rows) (row ∷ []))
          ∙ ap (λ (v : Value). map view (take i rows ++ v ∷ [])) is
          ∙ ap (map view) (sym (take_more rows i row h)),
      rest
          ∙ ap (λ (vs : List Value). are_wide n (items_view vs)) (drop_more rows i row h)
          ∙ ap (λ (v : Value). is_wide n (view v) && are_wide n left) (sym is)
          ∙ ap (λ (d : Data). is_wide n d && are_wide n left) view_is
          ∙ ap (λ (b : Bool). b && are_wide n left) as_wide,
    )

-- a row that is no list, or one of another length
pub no_list : (n : ℕ) (d : Data) → as_array d ≡ None → is_wide n d ≡ false
no_list n null e = refl
no_list n (boolean b) e = refl
no_list n (number x) e = refl
no_list n (string s) e = refl
no_list n (array ds) e = absurd (cc)
no_list n (object ms) e = refl

pub other_width : (n : ℕ) (vs : List Value) (d : Data) → as_array d ≡ Some (items_view vs) → ¬ (length vs ≡ n) → is_wide n d ≡ false
other_width n vs d list other =
    let differ : is_wide n (array (items_view vs)) ≡ false = rw (item_count_of vs) (ne_eqb (length vs) n other) in
    subst (λ (x : Data). is_wide n x ≡ false) (sym (array_of d (items_view vs) list)) differ

pub narrow : (rows : List Value) (i n : ℕ) (row : Value) → i < length rows → row ≡ get_or rows i row → is_wide n (view row) ≡ false → are_wide n (items_view rows) ≡ are_wide n (items_view (drop i rows)) → are_wide n (items_view rows) ≡ false
narrow rows i n row h is other rest =
    let left : Items = items_view (drop (i + 1) rows) in
    rest
    ∙ ap (λ (vs : List Value). are_wide n (items_view vs)) (drop_more rows i row h)
    ∙ ap (λ (v : Value). is_wide n (view v) && are_wide n left) (sym is)
    ∙ ap (λ (b : Bool). b && are_wide n left) other

-- where the value of a row is refused, so is the column
pub row_refused : (f : Data → Option Leaf) (ds : List Data) (i : ℕ) (d : Data) (values : List Leaf) → i < length ds → d ≡ get_or ds i d → each f (items_of ds) ≡ option_map (λ rest. values ++ rest) (each f (items_of (drop i ds))) → (e : RequestError) → Refuses (f d) e → Refuses (each f (items_of ds)) e
row_refused f ds i d values h is so_far e (inl memory) = inl memory
row_refused f ds i d values h is so_far e (inr shape) =
    let left : Option (List Leaf) = each f (items_of (drop (i + 1) ds)) in
    let more : Option (List Leaf) → Option (List Leaf) = option_map (λ (rest : List Leaf). values ++ rest) in
    let from : Option Leaf → Option (List Leaf) = option_and_then (λ (x : Leaf). option_map (λ (xs : List Leaf). x ∷ xs) left) in
    let none : each f (items_of ds) ≡ None =
    so_far
    ∙ ap (λ (xs : List Data). more (each f (items_of xs))) (drop_more ds i d h)
    ∙ ap (λ (x : Data). more (from (f x))) (sym is)
    ∙ ap (λ (o : Option Leaf). more (from o)) shape.1 in
    inr (shape.0, none)
