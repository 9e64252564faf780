-- Columns of the values of rows, read from the bytes of these.
use Rattle.std.proofs.Common.{◌≡◌, ℕ, zero, suc, ◌+◌, ◌<◌, ◌≤◌, ◌^◌, List, [], ◌∷◌, ◌++◌, map, take, drop, length, get_or, slice_get, Some, refl, sym, ap, ap₂, subst, ◌∙◌, append_assoc, add-one, arith}
use Rattle.std.specs.List.{All, range_with_len}
use Rattle.std.proofs.lemmas.List.{length-map, length-append, map-append, take_all, take_more, append-nil, get_or-map}
use Rattle.std.proofs.lemmas.Option.{slice_get-get_or}
use Rattle.std.proofs.lemmas.List.Elements.{All-head, All-tail, All-cons, All-nil}
use mathlib.Core.List.{map-map}
use Rattle.list_laws.proofs.Lists.{range_upto}
use Rattle.list_laws.proofs.Maps.{map_agree, read_all}
use Rattle.col_core.specs.declared.leaf.Leaf.{Leaf}
use Rattle.col_core.specs.declared.leaf.Leaf.TheVariants as leaves
use Rattle.col_core.specs.declared.schema.Field.{Field}
use Rattle.col_core.specs.declared.data_type.DataType.{DataType}
use Rattle.col_core.specs.Values.{value_at, Fits}
use Rattle.col_core.specs.Tables.{Column, Table, Row, header, field_at, no_field, column_of, values_of, values_at, rows_from, AreColumnsOf, FitsSchema}
use Rattle.col_core.proofs.Rows.{under_selected, rows_selected, mapped_more}
use Rattle.row_code.specs.Spelling.{spelling, row_spelling, Spells, IsSpelling, IsRowOf, ValueInFront, HasValueInFront}
use Rattle.row_code.proofs.Fronts.{same_value}

-- ---- rows that bytes spell

pub record Written (fields : List Field) (bytes : List (List ℕ)) : Type 0 where
  pub rows : List Row
  pub are : All (IsRowOf fields) rows
  pub same : bytes ≡ map (row_spelling fields) rows

pub rows_written : (fields : List Field) (bytes : List (List ℕ)) → All (IsSpelling fields) bytes → Written fields bytes
rows_written fields [] h = record { rows = []; are = All-nil (IsRowOf fields); same = refl }
rows_written fields (b ∷ bs) h =
    let here : IsSpelling fields b = All-head (IsSpelling fields) b bs h in
    let rest = rows_written fields bs (All-tail (IsSpelling fields) b bs h) in
    record {
      rows = here.0 ∷ rest.rows;
      are = All-cons (IsRowOf fields) here.0 rest.rows here.1.of rest.are;
      same = ap₂ (λ (x : List ℕ) (xs : List (List ℕ)). x ∷ xs) here.1.same rest.same;
    }

-- ---- the next value of each row

next_in : (f : Field) (fs : List Field) (row : Row) → IsRowOf (f ∷ fs) row → ValueInFront f.dtype (value_at row 0) (row_spelling fs (drop 1 row)) (row_spelling (f ∷ fs) row)
next_in f fs [] of = absurd of.fits
next_in f fs (x ∷ xs) of = record { of = record { fits = of.fits.0; short = of.short.0 }; same = refl }

pub values_next : (f : Field) (fs : List Field) (rows : List Row) (bytes : List (List ℕ)) → All (IsRowOf (f ∷ fs)) rows → bytes ≡ map (row_spelling (f ∷ fs)) rows → All (HasValueInFront f.dtype) bytes
values_next f fs rows bytes are same = subst (All (HasValueInFront f.dtype)) (sym same) (each f fs rows are)
  where
    each : (f : Field) (fs : List Field) (rows : List Row) → All (IsRowOf (f ∷ fs)) rows → All (HasValueInFront f.dtype) (map (row_spelling (f ∷ fs)) rows)
    each f fs [] are = All-nil (HasValueInFront f.dtype)
    each f fs (row ∷ rows) are =
        let Is : Row → Type 0 = IsRowOf (f ∷ fs) in
        let of : IsRowOf (f ∷ fs) row = All-head Is row rows are in
        All-cons (HasValueInFront f.dtype) (row_spelling (f ∷ fs) row) (map (row_spelling (f ∷ fs)) rows) (value_at row 0, row_spelling fs (drop 1 row), next_in f fs row of) (each f fs rows (All-tail Is row rows are))

-- the value read from the bytes of a row is its first, and the bytes of the others are left
pub value_next : (f : Field) (fs : List Field) (row : Row) (v : Leaf) (rest bytes : List ℕ) → IsRowOf (f ∷ fs) row → bytes ≡ row_spelling (f ∷ fs) row → ValueInFront f.dtype v rest bytes
    → (v ≡ value_at row 0) × (rest ≡ row_spelling fs (drop 1 row))
value_next f fs row v rest bytes of same found =
    same_value f.dtype v (value_at row 0) rest (row_spelling fs (drop 1 row)) bytes found
    (subst (ValueInFront f.dtype (value_at row 0) (row_spelling fs (drop 1 row))) (sym same) (next_in f fs row of))

-- ---- past the first fields

drop_next : {X : Type 0} (n : ℕ) (xs : List X) → drop 1 (drop n xs) ≡ drop (n + 1) xs
drop_next n xs = rw (add-one n) (next n xs)
  where
    next : {X : Type 0} (n : ℕ) (xs : List X) → drop 1 (drop n xs) ≡ drop (suc n) xs
    next zero [] = refl
    next zero (x ∷ xs) = refl
    next (suc n) [] = refl
    next (suc n) (x ∷ xs) = next n xs

row_past : (n : ℕ) (fields : List Field) (row : Row) → IsRowOf fields row → IsRowOf (drop n fields) (drop n row)
row_past zero fields row of = of
row_past (suc n) [] [] of = of
row_past (suc n) [] (x ∷ xs) of = absurd of.fits
row_past (suc n) (f ∷ fs) [] of = absurd of.fits
row_past (suc n) (f ∷ fs) (x ∷ xs) of = row_past n fs xs (record { fits = of.fits.1; short = of.short.1 })

pub rows_past : (n : ℕ) (fields : List Field) (rows : List Row) → All (IsRowOf fields) rows → All (IsRowOf (drop n fields)) (map (drop n) rows)
rows_past n fields [] are = All-nil (IsRowOf (drop n fields))
rows_past n fields (row ∷ rows) are =
    All-cons (IsRowOf (drop n fields)) (drop n row) (map (drop n) rows) (row_past n fields row (All-head (IsRowOf fields) row rows are)) (rows_past n fields rows (All-tail (IsRowOf fields) row rows are))

first_past : (n : ℕ) (row : Row) → value_at (drop n row) 0 ≡ value_at row n
first_past zero row = refl
first_past (suc n) [] = refl
first_past (suc n) (x ∷ xs) = first_past n xs

pub column_past : (n : ℕ) (rows : List Row) → column_of 0 (map (drop n) rows) ≡ column_of n rows
column_past n rows = map-map (λ (row : Row). value_at row 0) (drop n) rows ∙ map_agree _ _ (first_past n) rows

pub bytes_past : (n : ℕ) (fields : List Field) (rows : List Row) → map (λ row. row_spelling fields (drop 1 row)) (map (drop n) rows) ≡ map (λ row. row_spelling fields (drop (n + 1) row)) rows
bytes_past n fields rows = map-map (λ (row : Row). row_spelling fields (drop 1 row)) (drop n) rows ∙ map_agree _ _ (λ (row : Row). ap (row_spelling fields) (drop_next n row)) rows

-- ---- what is read so far: the first n columns, and the bytes of the others

pub record IsRead (fields : List Field) (rows : List Row) (n : ℕ) (columns : List (List Leaf)) (rests : List (List ℕ)) : Type 0 where
  pub columns_are : columns ≡ map (λ c. column_of c rows) (range_with_len 0 n)
  pub rests_are : rests ≡ map (λ row. row_spelling (drop n fields) (drop n row)) rows

pub read_none : (fields : List Field) (rows : List Row) (rests : List (List ℕ)) → rests ≡ map (row_spelling fields) rows → IsRead fields rows 0 [] rests
read_none fields rows rests e = record { columns_are = refl; rests_are = e }

pub rests_past : (fields : List Field) (rows : List Row) (n : ℕ) (columns : List (List Leaf)) (rests : List (List ℕ)) (f : Field) (fs : List Field) → drop n fields ≡ f ∷ fs
    → IsRead fields rows n columns rests → rests ≡ map (row_spelling (f ∷ fs)) (map (drop n) rows)
rests_past fields rows n columns rests f fs e read =
    read.rests_are ∙ ap (λ (l : List Field). map (λ (row : Row). row_spelling l (drop n row)) rows) e ∙ sym (map-map (row_spelling (f ∷ fs)) (drop n) rows)

pub read_more : (fields : List Field) (rows : List Row) (n : ℕ) (columns : List (List Leaf)) (rests : List (List ℕ)) (fs : List Field) (column : List Leaf) (after : List (List ℕ)) → drop (n + 1) fields ≡ fs
    → IsRead fields rows n columns rests → column ≡ column_of 0 (map (drop n) rows) → after ≡ map (λ row. row_spelling fs (drop 1 row)) (map (drop n) rows) → IsRead fields rows (n + 1) (columns ++ column ∷ []) after
read_more fields rows n columns rests fs column after e read here left = record {
  columns_are = ap₂ (λ (cs : List (List Leaf)) (c : List Leaf). cs ++ c ∷ []) read.columns_are (here ∙ column_past n rows)
      ∙ sym (map-append (λ (c : ℕ). column_of c rows) (range_with_len 0 n) (n ∷ [])) ∙ ap (map (λ (c : ℕ). column_of c rows)) (sym (range_upto n));
  rests_are = left ∙ bytes_past n fs rows ∙ ap (λ (l : List Field). map (λ (row : Row). row_spelling l (drop (n + 1) row)) rows) (sym e);
}

-- ---- the columns are those of the rows

length_row : (fields : List Field) (row : Row) → FitsSchema fields row → length row ≡ length fields
length_row [] [] h = refl
length_row [] (x ∷ xs) h = absurd h
length_row (f ∷ fs) [] h = absurd h
length_row (f ∷ fs) (x ∷ xs) h = ap suc (length_row fs xs h.1)

whole_rows : (fields : List Field) (rows : List Row) → All (IsRowOf fields) rows → map (λ row. values_at row (range_with_len 0 (length fields))) rows ≡ rows
whole_rows fields [] are = refl
whole_rows fields (row ∷ rows) are =
    let of : IsRowOf fields row = All-head (IsRowOf fields) row rows are in
    let whole : values_at row (range_with_len 0 (length fields)) ≡ row = ap (λ (n : ℕ). values_at row (range_with_len 0 n)) (sym (length_row fields row of.fits)) ∙ read_all row leaves.Null in
    ap₂ (λ (r : Row) (rs : List Row). r ∷ rs) whole (whole_rows fields rows (All-tail (IsRowOf fields) row rows are))

pub columns_under : (fields : List Field) (rows : List Row) (columns : List Column) (height : ℕ) → All (IsRowOf fields) rows → map header columns ≡ fields
    → values_of columns ≡ map (λ c. column_of c rows) (range_with_len 0 (length fields)) → All (λ c. All (Fits c.dtype) c.values) columns → length rows ≡ height → AreColumnsOf fields columns height
columns_under fields rows columns height are headers values fits long =
    let t : Table = record { schema = fields; rows = rows } in
    let all : map (field_at fields) (range_with_len 0 (length fields)) ≡ fields = read_all fields no_field in
    let under : AreColumnsOf (map (field_at fields) (range_with_len 0 (length fields))) columns (length rows) = under_selected t (range_with_len 0 (length fields)) columns (headers ∙ sym all) values fits in
    subst (AreColumnsOf fields columns) long (subst (λ (l : List Field). AreColumnsOf l columns (length rows)) all under)

pub rows_again : (fields : List Field) (rows : List Row) (columns : List Column) (height : ℕ) → All (IsRowOf fields) rows
    → values_of columns ≡ map (λ c. column_of c rows) (range_with_len 0 (length fields)) → length rows ≡ height → rows_from height (values_of columns) ≡ rows
rows_again fields rows columns height are values long =
    let t : Table = record { schema = fields; rows = rows } in
    ap (λ (n : ℕ). rows_from n (values_of columns)) (sym long) ∙ rows_selected t (range_with_len 0 (length fields)) columns values ∙ whole_rows fields rows are

-- ---- loops

pub items_more : (items : List (List ℕ)) (i : ℕ) (item : List ℕ) (done new : List (List ℕ)) → i < length items → slice_get items i ≡ Some item → done ≡ take i items → new ≡ done ++ item ∷ [] → new ≡ take (i + 1) items
items_more items i item done new below found before pushed =
    let at : get_or items i [] ≡ item = let e = sym (slice_get-get_or items i [] below) ∙ found in cc in
    pushed ∙ ap₂ (λ (xs : List (List ℕ)) (x : List ℕ). xs ++ x ∷ []) before (sym at) ∙ sym (take_more items i [] below)

-- one more value of a column, and one more rest
pub read_next : (f : Field) (fields : List Field) (whole : List Row) (bytes : List (List ℕ)) (i : ℕ) (v : Leaf) (rest : List ℕ) (values values_new : List Leaf) (rests rests_new : List (List ℕ))
    → All (IsRowOf (f ∷ fields)) whole → bytes ≡ map (row_spelling (f ∷ fields)) whole → i < length bytes → ValueInFront f.dtype v rest (get_or bytes i [])
    → values ≡ column_of 0 (take i whole) → rests ≡ map (λ row. row_spelling fields (drop 1 row)) (take i whole) → values_new ≡ values ++ v ∷ [] → rests_new ≡ rests ++ rest ∷ []
    → (values_new ≡ column_of 0 (take (i + 1) whole)) × (rests_new ≡ map (λ row. row_spelling fields (drop 1 row)) (take (i + 1) whole))
read_next f fields whole bytes i v rest values values_new rests rests_new are same below found values_are rests_are values_more rests_more =
    let within : i < length whole = omega (arith, ap length same, length-map whole (row_spelling (f ∷ fields))) in
    let row = get_or whole i [] in
    let here : get_or bytes i [] ≡ row_spelling (f ∷ fields) row = ap (λ (bs : List (List ℕ)). get_or bs i []) same ∙ get_or-map (row_spelling (f ∷ fields)) whole i [] [] within in
    let next = value_next f fields row v rest (get_or bytes i []) (are i [] within) here found in (
      mapped_more (λ (r : Row). value_at r 0) whole i [] values values_new v within values_are values_more (sym next.0),
      mapped_more (λ (r : Row). row_spelling fields (drop 1 r)) whole i [] rests rests_new rest within rests_are rests_more (sym next.1),
    )
