-- Columns as rows.
use Rattle.std.proofs.Common.{◌≡◌, ◌++◌, ℕ, zero, suc, ◌+◌, ◌<◌, ◌≤◌, take, drop, List, [], ◌∷◌, map, length, get_or, slice_get, Some, refl, sym, ap, ◌∙◌, subst, arith, zero-add}
use Rattle.std.specs.List.{All, range_with_len}
use Rattle.std.proofs.lemmas.List.{drop_more, take_more, map-append, length-map, get_or-map}
use Rattle.std.proofs.lemmas.List.FromFn.{length-map-range_with_len, get_or-map-range_with_len, fill_by_all}
use Rattle.std.proofs.lemmas.List.Elements.{All-nil, All-cons, All-get_or, All-weaker, All-map, All-head, All-tail}
use mathlib.Core.List.{map-map}
use Rattle.col_core.specs.declared.leaf.Leaf.{Leaf}
use Rattle.col_core.specs.declared.leaf.Leaf.TheVariants as leaves
use Rattle.col_core.specs.declared.schema.Field.{Field}
use Rattle.col_core.specs.Values.{value_at, Fits}
use Rattle.col_core.specs.Tables.{Row, row_at, rows_from, values_at, rows_at, column_of, Column, values_of, header, AreColumnsOf, taken, AreWide, FitsSchema, Table, field_at}
use Rattle.col_core.proofs.Leaves.{fits_taken}

-- a map agrees where its function does
pub map_agree : {A B : Type 0} (f g : A → B) → ((a : A) → f a ≡ g a) → (xs : List A) → map f xs ≡ map g xs
map_agree f g h [] = refl
map_agree f g h (x ∷ xs) = cc (h x, map_agree f g h xs)

-- and on a list whose elements it agrees on
pub map_agree_on : {A B : Type 0} (f g : A → B) (xs : List A) → ((k : ℕ) (d : A) → k < length xs → f (get_or xs k d) ≡ g (get_or xs k d)) → map f xs ≡ map g xs
map_agree_on f g [] h = refl
map_agree_on f g (x ∷ xs) h = cc (h 0 x (omega arith), map_agree_on f g xs (λ k d l. h (suc k) d (omega arith)))

-- a row of columns that are given row by row
at_row : {C X : Type 0} (f : C → X → Leaf) (cs : List C) (xs : List X) (d : X) (k : ℕ) → k < length xs → row_at (map (λ c. map (f c) xs) cs) k ≡ map (λ c. f c (get_or xs k d)) cs
at_row f cs xs d k h = map-map (λ (values : List Leaf). value_at values k) (λ c. map (f c) xs) cs ∙ map_agree _ _ (λ c. get_or-map (f c) xs k d leaves.Null h) cs

-- the rows of columns that are given row by row
pub transposed : {C X : Type 0} (f : C → X → Leaf) (cs : List C) (xs : List X) → rows_from (length xs) (map (λ c. map (f c) xs) cs) ≡ map (λ x. map (λ c. f c x) cs) xs
transposed f cs [] = refl
transposed f cs (x ∷ xs) = sym (fill_by_all (row_at (map (λ c. map (f c) (x ∷ xs)) cs)) (map (λ y. map (λ c. f c y) cs) (x ∷ xs)) (length (x ∷ xs)) [] (length-map (x ∷ xs) (λ y. map (λ c. f c y) cs)) (λ k h.
    get_or-map (λ y. map (λ c. f c y) cs) (x ∷ xs) k x [] h ∙ sym (at_row f cs (x ∷ xs) x k h)))

pub length-rows : (n : ℕ) (columns : List (List Leaf)) → length (rows_from n columns) ≡ n
length-rows n columns = length-map-range_with_len (row_at columns) 0 n

-- a row among the rows
pub row_among : (n : ℕ) (columns : List (List Leaf)) (i : ℕ) → i < n → get_or (rows_from n columns) i [] ≡ row_at columns i
row_among n columns i h = get_or-map-range_with_len (row_at columns) 0 n i i [] h (zero-add i)

-- the rows at places, column by column
pub rows_taken : (n : ℕ) (columns : List (List Leaf)) (places : List ℕ) → All (λ i. i < n) places → rows_from (length places) (map (λ values. values_at values places) columns) ≡ rows_at (rows_from n columns) places
rows_taken n columns places all = transposed (λ values i. value_at values i) columns places
    ∙ map_agree_on (row_at columns) (λ i. get_or (rows_from n columns) i []) places (λ k d h. sym (row_among n columns (get_or places k d) (All-get_or (λ (i : ℕ). i < n) places k d h all)))

-- the same of whole columns
pub columns_taken : (columns : List Column) (n : ℕ) (rows : List Row) (places : List ℕ) → rows ≡ rows_from n (values_of columns) → All (λ i. i < n) places → rows_from (length places) (values_of (map (taken places) columns)) ≡ rows_at rows places
columns_taken columns n rows places e inside =
    ap (rows_from (length places)) (map-map (λ (x : Column). x.values) (taken places) columns ∙ sym (map-map (λ (vs : List Leaf). values_at vs places) (λ (x : Column). x.values) columns))
    ∙ rows_taken n (values_of columns) places inside ∙ ap (λ (xs : List Row). rows_at xs places) (sym e)

-- items one after the other
pub in_range : {X : Type 0} (xs : List X) (d : X) (start len : ℕ) → start + len ≤ length xs → map (λ i. get_or xs i d) (range_with_len start len) ≡ take len (drop start xs)
in_range xs d start zero h = refl
in_range xs d start (suc len) h =
    ap (λ rest. get_or xs start d ∷ rest) (in_range xs d (start + 1) len (omega arith)) ∙ sym (ap (take (suc len)) (drop_more xs start d (omega arith)))

pub range_within : (start len n : ℕ) → start + len ≤ n → All (λ i. i < n) (range_with_len start len)
range_within start zero n h = All-nil (λ (i : ℕ). i < n)
range_within start (suc len) n h = All-cons (λ (i : ℕ). i < n) start (range_with_len (start + 1) len) (omega arith) (range_within (start + 1) len n (omega arith))

-- a column, from the rows
pub column_from_rows : (columns : List Column) (n i : ℕ) (c : Column) → All (λ c. length c.values ≡ n) columns → i < length columns → c ≡ get_or columns i c → c.values ≡ column_of i (rows_from n (values_of columns))
column_from_rows columns n i c lengths h e =
    let values = values_of columns in
    let long : length c.values ≡ n = rw e (All-get_or (λ (c : Column). length c.values ≡ n) columns i c h lengths) in
    let at : get_or values i [] ≡ c.values = get_or-map (λ (c : Column). c.values) columns i c [] h ∙ ap (λ (c : Column). c.values) (sym e) in
    let inside : i < length values = rw (length-map columns (λ (c : Column). c.values)) h in
    fill_by_all (value_at c.values) c.values n leaves.Null long (λ k l. refl)
    ∙ map_agree (value_at c.values) (λ k. value_at (row_at values k) i) (λ k. ap (λ vs. value_at vs k) (sym at) ∙ sym (get_or-map (λ vs. value_at vs k) values i [] leaves.Null inside)) (range_with_len 0 n)
    ∙ sym (map-map (λ row. value_at row i) (row_at values) (range_with_len 0 n))

-- a column's field
pub field_of : (columns : List Column) (schema : List Field) (i : ℕ) (c : Column) → map header columns ≡ schema → i < length columns → c ≡ get_or columns i c → slice_get schema i ≡ Some (header c)
field_of columns schema i c e h f = rw (← e) (along columns i h f)
  where
    along : (cs : List Column) (i : ℕ) → i < length cs → c ≡ get_or cs i c → slice_get (map header cs) i ≡ Some (header c)
    along [] i h f = absurd (omega arith)
    along (x ∷ cs) zero h f = cc
    along (x ∷ cs) (suc i) h f = along cs i (omega arith) f

-- the values of columns at places stand under the same schema
pub under_taken : (schema : List Field) (columns : List Column) (n : ℕ) (places : List ℕ) → AreColumnsOf schema columns n → All (λ i. i < n) places → AreColumnsOf schema (map (taken places) columns) (length places)
under_taken schema columns n places under inside = record {
  headers = map-map header (taken places) columns ∙ under.headers;
  lengths = All-map (λ (c : Column). length c.values ≡ length places) (taken places) columns (All-weaker (λ (c : Column). length c.values ≡ n) _ (λ c h. length-map places (value_at c.values)) columns under.lengths);
  fits = All-map (λ (c : Column). All (Fits c.dtype) c.values) (taken places) columns (λ k d l.
      let c = get_or columns k d in
      fits_taken c.dtype c.values places (under.fits k d l) (subst (λ (m : ℕ). All (λ i. i < m) places) (sym (under.lengths k d l)) inside));
}

-- each row of columns has a value for each field
pub wide : (schema : List Field) (columns : List Column) (n : ℕ) → map header columns ≡ schema → AreWide (record { schema = schema; rows = rows_from n (values_of columns) })
wide schema columns n e k d h =
    let short : k < n = subst (λ (m : ℕ). k < m) (length-rows n (values_of columns)) h in
    ap length (get_or-map-range_with_len (row_at (values_of columns)) 0 n k k d short (zero-add k))
    ∙ length-map (values_of columns) (λ values. value_at values k) ∙ length-map columns (λ (c : Column). c.values) ∙ sym (length-map columns header) ∙ ap length e

-- a row of columns fits their fields
row_fits : (columns : List Column) (k : ℕ) → All (λ (c : Column). k < length c.values) columns → All (λ (c : Column). All (Fits c.dtype) c.values) columns → FitsSchema (map header columns) (row_at (values_of columns) k)
row_fits [] k inside fits = tt
row_fits (c ∷ cs) k inside fits =
    let Inside : Column → Type 0 = λ x. k < length x.values in
    let AllFit : Column → Type 0 = λ x. All (Fits x.dtype) x.values in
    (All-head AllFit c cs fits k leaves.Null (All-head Inside c cs inside), row_fits cs k (All-tail Inside c cs inside) (All-tail AllFit c cs fits))

pub rows_fit : (schema : List Field) (columns : List Column) (n : ℕ) → AreColumnsOf schema columns n → All (FitsSchema schema) (rows_from n (values_of columns))
rows_fit schema columns n under k d h =
    let short : k < n = subst (λ (m : ℕ). k < m) (length-rows n (values_of columns)) h in
    subst (FitsSchema schema) (sym (get_or-map-range_with_len (row_at (values_of columns)) 0 n k k d short (zero-add k)))
    (subst (λ (s : List Field). FitsSchema s (row_at (values_of columns) k)) under.headers (row_fits columns k (λ j e l. subst (λ (m : ℕ). k < m) (sym (under.lengths j e l)) short) under.fits))

-- some columns of a table stand under their fields, and have its rows cut to them
pub under_selected : (t : Table) (places : List ℕ) (columns : List Column) → map header columns ≡ map (field_at t.schema) places → values_of columns ≡ map (λ i. column_of i t.rows) places
    → All (λ c. All (Fits c.dtype) c.values) columns → AreColumnsOf (map (field_at t.schema) places) columns (length t.rows)
under_selected t places columns h v f = record {
  headers = h;
  lengths = λ k d l. sym (ap length (get_or-map (λ (c : Column). c.values) columns k d [] l))
      ∙ ap (λ (vs : List (List Leaf)). length (get_or vs k [])) v
      ∙ ap length (get_or-map (λ (i : ℕ). column_of i t.rows) places k 0 [] (as_long k l))
      ∙ length-map t.rows (λ row. value_at row (get_or places k 0));
  fits = f;
}
  where
    as_long : (k : ℕ) → k < length columns → k < length places
    as_long k l = subst (λ (n : ℕ). k < n) (sym (length-map columns header) ∙ ap length h ∙ length-map places (field_at t.schema)) l

pub rows_selected : (t : Table) (places : List ℕ) (columns : List Column) → values_of columns ≡ map (λ i. column_of i t.rows) places → rows_from (length t.rows) (values_of columns) ≡ map (λ row. values_at row places) t.rows
rows_selected t places columns v = ap (rows_from (length t.rows)) v ∙ transposed (λ (i : ℕ) (row : Row). value_at row i) places t.rows

pub field_found : (schema : List Field) (i : ℕ) (f : Field) → slice_get schema i ≡ Some f → field_at schema i ≡ f
field_found [] i f h = cc
field_found (x ∷ xs) zero f h = let same : x ≡ f = cc in same
field_found (x ∷ xs) (suc i) f h = field_found xs i f h

-- a list that is made item by item from another, one item further
pub mapped_more : {X Y : Type 0} (f : X → Y) (xs : List X) (i : ℕ) (d : X) (done new : List Y) (y : Y) → i < length xs → done ≡ map f (take i xs) → new ≡ done ++ y ∷ [] → f (get_or xs i d) ≡ y → new ≡ map f (take (i + 1) xs)
mapped_more f xs i d done new y h e n same =
    n ∙ ap (λ ys. ys ++ y ∷ []) e ∙ ap (λ z. map f (take i xs) ++ z ∷ []) (sym same)
    ∙ sym (ap (map f) (take_more xs i d h) ∙ map-append f (take i xs) (get_or xs i d ∷ []))

pub ruleset fields = (field_found)

pub ruleset row_facts = (length-rows, column_from_rows, field_of)
