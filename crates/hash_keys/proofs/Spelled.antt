-- The keys of rows from their bytes and from which rows have nulls.
use Rattle.std.proofs.Common.{◌≡◌, ◌<◌, ◌≤◌, ◌+◌, ◌^◌, ℕ, Bool, true, false, not, ◌&&◌, ◌||◌, cond, List, [], ◌∷◌, ◌++◌, map, take, length, get_or, slice_get, Some, None, inl, inr, refl, sym, ap, ap₂, subst, zero, suc, ◌∙◌, arith}
use Rattle.std.specs.Prelude.{◌⊎◌}
use Rattle.std.specs.List.{All, list_any, count_by, range_with_len}
use Rattle.std.proofs.lemmas.List.{length-map, get_or-map, take_more}
use Rattle.std.proofs.lemmas.List.Sums.{sum_by-cons}
use Rattle.std.proofs.lemmas.Option.{slice_get-get_or}
use Rattle.std.proofs.lemmas.List.Elements.{All-head, All-tail}
use Rattle.list_laws.specs.Each.{Each}
use Rattle.list_laws.proofs.Each.{Each-all, Each-map}
use Rattle.list_laws.proofs.Halves.{neither}
use Rattle.list_laws.proofs.Keys.{list_any-map, list_any-append}
use Rattle.list_laws.proofs.Maps.{read_all}
use Rattle.col_arrays.specs.Items.{item_of, stored, all_present, with_validity}
use Rattle.col_core.specs.declared.leaf.Leaf.{Leaf}
use Rattle.col_core.specs.declared.leaf.Leaf.TheVariants as leaves
use Rattle.col_core.specs.declared.schema.Field.{Field}
use Rattle.col_core.specs.Values.{value_at, is_null}
use Rattle.col_core.specs.Tables.{Row, Table, AreWide, selected, values_at, column_of, no_field}
use Rattle.col_core.proofs.Rows.{mapped_more}
use Rattle.key_parts.specs.declared.hash.PlRandomState.{PlRandomState}
use Rattle.key_parts.specs.Hashes.{hash_of}
use Rattle.row_code.specs.Spelling.{row_spelling}
use Rattle.row_code.specs.Columns.{spellings}
use Rattle.hash_keys.specs.Keys.{Key}
use Rattle.hash_keys.specs.Hashed.{AreHashed}
use Rattle.hash_keys.specs.Rows.{key_of, row_keys}

-- rows of which each has a key that is present
all_keys : (valid : Bool) (schema : List Field) (rows : List Row) → Each (λ row. (not valid && list_any is_null row) ≡ false) rows
    → map item_of (all_present (map (row_spelling schema) rows)) ≡ map (key_of valid schema) rows
all_keys valid schema [] h = refl
all_keys valid schema (row ∷ rows) h =
    ap₂ (λ (k : Key) (ks : List Key). k ∷ ks) (sym (ap (λ (b : Bool). cond b None (Some (row_spelling schema row))) h.0)) (all_keys valid schema rows h.1)

-- no null in the columns is none in the rows
any_split : (p q : ℕ → Bool) (xs : List ℕ) → list_any (λ x. p x || q x) xs ≡ false → (list_any p xs ≡ false) × (list_any q xs ≡ false)
any_split p q [] h = (refl, refl)
any_split p q (x ∷ xs) h =
    let both = neither (p x || q x) (list_any (λ x. p x || q x) xs) h in
    let here = neither (p x) (q x) both.0 in
    let rest = any_split p q xs both.1 in
    (ap₂ (λ (a b : Bool). a || b) here.0 rest.0, ap₂ (λ (a b : Bool). a || b) here.1 rest.1)

no_null : (rows : List Row) (places : List ℕ) → list_any (λ i. list_any is_null (column_of i rows)) places ≡ false
    → Each (λ row. list_any is_null (values_at row places) ≡ false) rows
no_null [] places h = tt
no_null (row ∷ rows) places h =
    let both = any_split (λ i. is_null (value_at row i)) (λ i. list_any is_null (column_of i rows)) places h in
    (list_any-map is_null (value_at row) places ∙ both.0, no_null rows places both.1)

-- where nulls are valid, and where there are none
pub keys_valid : (t : Table) → map item_of (all_present (spellings t)) ≡ row_keys true t
keys_valid t = all_keys true t.schema t.rows (Each-all (λ (row : Row). (not true && list_any is_null row) ≡ false) t.rows (λ row. refl))

pub keys_full : (valid : Bool) (t : Table) (places : List ℕ) → list_any (λ i. list_any is_null (column_of i t.rows)) places ≡ false
    → map item_of (all_present (spellings (selected places t))) ≡ row_keys valid (selected places t)
keys_full true t places h = keys_valid (selected places t)
keys_full false t places h =
    all_keys false (selected places t).schema (selected places t).rows
    (Each-map (λ (row : Row). list_any is_null row ≡ false) (λ (row : Row). values_at row places) t.rows (no_null t.rows places h))

-- where some rows have nulls
masked_one : (has : Bool) (key : List ℕ) → item_of (key, not has) ≡ cond (not false && has) None (Some key)
masked_one true key = refl
masked_one false key = refl

masked : (schema : List Field) (rows : List Row) → map item_of (with_validity (all_present (map (row_spelling schema) rows)) (Some (map (λ row. not (list_any is_null row)) rows))) ≡ map (key_of false schema) rows
masked schema [] = refl
masked schema (row ∷ rows) = ap₂ (λ (k : Key) (ks : List Key). k ∷ ks) (masked_one (list_any is_null row) (row_spelling schema row)) (masked schema rows)

pub keys_masked : (t : Table) → map item_of (with_validity (all_present (spellings t)) (Some (map (λ row. not (list_any is_null row)) t.rows))) ≡ row_keys false t
keys_masked t = masked t.schema t.rows

-- all columns of a table are the table
all_values : (rows : List Row) (n : ℕ) → All (λ row. length row ≡ n) rows → map (λ row. values_at row (range_with_len 0 n)) rows ≡ rows
all_values [] n h = refl
all_values (row ∷ rows) n h =
    let P : Row → Type 0 = λ row. length row ≡ n in
    let long : length row ≡ n = All-head P row rows h in
    let whole : values_at row (range_with_len 0 n) ≡ row = ap (λ (k : ℕ). values_at row (range_with_len 0 k)) (sym long) ∙ read_all row leaves.Null in
    ap₂ (λ (r : Row) (rs : List Row). r ∷ rs) whole (all_values rows n (All-tail P row rows h))

pub selected_all : (t : Table) → AreWide t → selected (range_with_len 0 (length t.schema)) t ≡ t
selected_all t wide =
    ap₂ (λ (s : List Field) (rows : List Row). record { schema = s; rows = rows }) (read_all t.schema no_field) (all_values t.rows (length t.schema) wide)

pub length-row_keys : (valid : Bool) (t : Table) → length (row_keys valid t) ≡ length t.rows
length-row_keys valid t = length-map t.rows (key_of valid t.schema)

-- ---- loops

-- whether one more row has a null
pub present_more : (rows : List Row) (places : List ℕ) (i : ℕ) (has : Bool) (done new : List Bool) → i < length rows → has ≡ list_any is_null (values_at (get_or rows i []) places)
    → done ≡ map (λ row. not (list_any is_null row)) (take i (map (λ row. values_at row places) rows)) → new ≡ done ++ not has ∷ []
    → new ≡ map (λ row. not (list_any is_null row)) (take (i + 1) (map (λ row. values_at row places) rows))
present_more rows places i has done new below is before pushed =
    let chosen = λ (row : Row). values_at row places in
    let within : i < length (map chosen rows) = rw (length-map rows chosen) below in
    mapped_more (λ (row : Row). not (list_any is_null row)) (map chosen rows) i [] done new (not has) within before pushed
    (ap (λ (row : Row). not (list_any is_null row)) (get_or-map chosen rows i [] [] below) ∙ ap not (sym is))

any_found : (p : ℕ → Bool) (xs : List ℕ) (i d : ℕ) → i < length xs → p (get_or xs i d) ≡ true → list_any p xs ≡ true
any_found p [] i d below h = absurd (omega arith)
any_found p (x ∷ xs) zero d below h = ap (λ (b : Bool). b || list_any p xs) h
any_found p (x ∷ xs) (suc i) d below h = ap (λ (b : Bool). p x || b) (any_found p xs i d (omega arith) h) ∙ or_true (p x)
  where
    or_true : (b : Bool) → (b || true) ≡ true
    or_true true = refl
    or_true false = refl

-- a null in a row
pub null_found : (row : Row) (places : List ℕ) (i d : ℕ) → i < length places → is_null (value_at row (get_or places i d)) ≡ true → list_any is_null (values_at row places) ≡ true
null_found row places i d below h = list_any-map is_null (value_at row) places ∙ any_found (λ c. is_null (value_at row c)) places i d below h

-- a value of a column, in its row
pub value_in_row : (rows : List Row) (values : List Leaf) (place row : ℕ) → values ≡ column_of place rows → row < length rows → value_at values row ≡ value_at (get_or rows row []) place
value_in_row rows values place row are below = ap (λ (vs : List Leaf). value_at vs row) are ∙ get_or-map (λ (r : Row). value_at r place) rows row [] leaves.Null below

-- columns with a null, and without
nulls_counted : (xs : List Leaf) → (list_any is_null xs ≡ false → count_by is_null xs ≡ 0) × (count_by is_null xs ≤ 0 → list_any is_null xs ≡ false)
nulls_counted [] = (λ e. refl, λ h. refl)
nulls_counted (x ∷ xs) =
    let rest = nulls_counted xs in
    let both = one (is_null x) (list_any is_null xs) (count_by is_null xs) rest.0 rest.1 in
    let more : count_by is_null (x ∷ xs) ≡ cond (is_null x) 1 0 + count_by is_null xs = sum_by-cons (λ (v : Leaf). cond (is_null v) 1 0) x xs in
    (λ e. more ∙ both.0 e, λ h. both.1 (subst (λ (n : ℕ). n ≤ 0) more h))
  where
    one : (here rest : Bool) (n : ℕ) → (rest ≡ false → n ≡ 0) → (n ≤ 0 → rest ≡ false)
        → ((here || rest) ≡ false → cond here 1 0 + n ≡ 0) × (cond here 1 0 + n ≤ 0 → (here || rest) ≡ false)
    one true rest n f g = (λ e. cc, λ h. absurd (omega arith))
    one false rest n f g = (λ e. let z = f e in omega arith, λ h. g (omega arith))

nulls_some : (xs : List Leaf) → 0 < count_by is_null xs → list_any is_null xs ≡ true
nulls_some xs h = elim (bool_cases (list_any is_null xs)) [ inl e ↦ e | inr e ↦ let z = (nulls_counted xs).0 e in absurd (omega arith) ]
  where
    bool_cases : (b : Bool) → (b ≡ true) ⊎ (b ≡ false)
    bool_cases true = inl refl
    bool_cases false = inr refl

nulls_none : (xs : List Leaf) → count_by is_null xs ≤ 0 → list_any is_null xs ≡ false
nulls_none xs h = (nulls_counted xs).1 h

pub columns_some : (rows : List Row) (places : List ℕ) (i d : ℕ) (values : List Leaf) → i < length places → values ≡ column_of (get_or places i d) rows → 0 < count_by is_null values
    → list_any (λ c. list_any is_null (column_of c rows)) places ≡ true
columns_some rows places i d values below are h = any_found (λ c. list_any is_null (column_of c rows)) places i d below (ap (list_any is_null) (sym are) ∙ nulls_some values h)

pub columns_none : (rows : List Row) (places : List ℕ) (i d : ℕ) (values : List Leaf) → i < length places → values ≡ column_of (get_or places i d) rows → count_by is_null values ≤ 0
    → list_any (λ c. list_any is_null (column_of c rows)) (take i places) ≡ false → list_any (λ c. list_any is_null (column_of c rows)) (take (i + 1) places) ≡ false
columns_none rows places i d values below are h before =
    let p = λ (c : ℕ). list_any is_null (column_of c rows) in
    let here : p (get_or places i d) ≡ false = ap (list_any is_null) (sym are) ∙ nulls_none values h in
    ap (list_any p) (take_more places i d below) ∙ list_any-append p (take i places) (get_or places i d ∷ [])
    ∙ ap₂ (λ (a b : Bool). a || (b || false)) before here

-- as many keys as rows
pub count_of_keys : (valid : Bool) (places : List ℕ) (t : Table) (keys : List (List ℕ × Bool)) → map item_of keys ≡ row_keys valid (selected places t) → length keys ≡ length t.rows
count_of_keys valid places t keys h =
    sym (length-map keys (item_of {T = List ℕ})) ∙ ap length h
    ∙ length-row_keys valid (selected places t)
    ∙ length-map t.rows (λ row. values_at row places)
