-- The bytes of the rows of columns.
use Rattle.std.proofs.Common.{◌≡◌, ◌<◌, ◌≤◌, ◌+◌, ℕ, List, [], ◌∷◌, ◌++◌, map, take, length, get_or, refl, sym, ap, ap₂, subst, ◌∙◌, arith}
use Rattle.std.specs.List.{All, flat_map, range_with_len}
use Rattle.std.proofs.lemmas.List.{length-map, get_or-map, map-append, take_more}
use Rattle.std.proofs.lemmas.List.Elements.{All-head, All-tail, All-map, All-push}
use mathlib.Core.List.{map-map}
use Rattle.list_laws.proofs.Maps.{map_agree}
use Rattle.list_laws.proofs.Lists.{range_upto}
use Rattle.col_arrays.specs.Buffer.{AreOffsets, byte_items}
use Rattle.col_arrays.proofs.Offsets.{offsets_more, byte_items_more}
use Rattle.col_core.specs.Values.{value_at}
use Rattle.col_core.specs.declared.schema.Field.{Field}
use Rattle.col_core.specs.Tables.{Column, Table, Row, header, field_at, column_of, values_of, row_at, rows_from, selected}
use Rattle.col_core.proofs.Rows.{range_within, rows_selected}
use Rattle.row_code.specs.Spelling.{spelling, row_spelling, IsValueOf, IsRowOf}
use Rattle.row_code.specs.Columns.{spellings}

-- the bytes of a row, column by column
row_of_columns : (cs : List Column) (i : ℕ) → row_spelling (map header cs) (row_at (values_of cs) i) ≡ flat_map (λ c. spelling c.dtype (value_at c.values i)) cs
row_of_columns [] i = refl
row_of_columns (c ∷ cs) i = ap (λ (bs : List ℕ). spelling c.dtype (value_at c.values i) ++ bs) (row_of_columns cs i)

-- a row has a value of each column's type
row_is : (cs : List Column) (i : ℕ) → All (λ c. IsValueOf c.dtype (value_at c.values i)) cs → IsRowOf (map header cs) (row_at (values_of cs) i)
row_is [] i h = record { fits = tt; short = tt }
row_is (c ∷ cs) i h =
    let P : Column → Type 0 = λ c. IsValueOf c.dtype (value_at c.values i) in
    let here : P c = All-head P c cs h in
    let rest = row_is cs i (All-tail P c cs h) in
    record { fits = (here.fits, rest.fits); short = (here.short, rest.short) }

flat_map-map : {A B : Type 0} (f : B → List ℕ) (g : A → B) (xs : List A) → flat_map f (map g xs) ≡ flat_map (λ x. f (g x)) xs
flat_map-map f g [] = refl
flat_map-map f g (x ∷ xs) = ap (λ (r : List ℕ). f (g x) ++ r) (flat_map-map f g xs)

-- the bytes of rows, and the rows, from columns that something shows
pub spellings_shown : {L : Type 0} (shown : L → Column) (ls : List L) (cs : List Column) (n : ℕ) → map shown ls ≡ cs
    → map (λ i. flat_map (λ l. spelling (shown l).dtype (value_at (shown l).values i)) ls) (range_with_len 0 n) ≡ map (row_spelling (map header cs)) (rows_from n (values_of cs))
spellings_shown shown ls cs n e =
    map_agree _ _ (λ i. sym (flat_map-map (λ (c : Column). spelling c.dtype (value_at c.values i)) shown ls) ∙ ap (flat_map (λ (c : Column). spelling c.dtype (value_at c.values i))) e ∙ sym (row_of_columns cs i)) (range_with_len 0 n)
    ∙ sym (map-map (row_spelling (map header cs)) (row_at (values_of cs)) (range_with_len 0 n))

pub rows_shown : {L : Type 0} (shown : L → Column) (ls : List L) (cs : List Column) (n : ℕ) → map shown ls ≡ cs
    → ((i : ℕ) → i < n → All (λ l. IsValueOf (shown l).dtype (value_at (shown l).values i)) ls)
    → All (IsRowOf (map header cs)) (rows_from n (values_of cs))
rows_shown shown ls cs n e h =
    All-map (IsRowOf (map header cs)) (row_at (values_of cs)) (range_with_len 0 n)
    (λ k d l. let i = get_or (range_with_len 0 n) k d in
    row_is cs i (subst (All (λ (c : Column). IsValueOf c.dtype (value_at c.values i))) e (All-map (λ (c : Column). IsValueOf c.dtype (value_at c.values i)) shown ls (h i (range_within 0 n n (omega arith) k d l)))))

-- what holds of the columns that are shown
pub All-shown : {L C : Type 0} (shown : L → C) (P : C → Type 0) (ls : List L) (cs : List C) → map shown ls ≡ cs → All P cs → All (λ l. P (shown l)) ls
All-shown {L} {C} shown P ls cs e h = λ k d l.
    let at : get_or cs k (shown d) ≡ shown (get_or ls k d) = ap (λ (xs : List C). get_or xs k (shown d)) (sym e) ∙ get_or-map shown ls k d (shown d) l in
    let below : k < length cs = omega (arith, ap length e, length-map ls shown) in
    subst P at (h k (shown d) below)

-- the rows of some columns of a table
pub spellings_selected : (t : Table) (places : List ℕ) (cs : List Column) → map header cs ≡ map (field_at t.schema) places → values_of cs ≡ map (λ i. column_of i t.rows) places
    → map (row_spelling (map header cs)) (rows_from (length t.rows) (values_of cs)) ≡ spellings (selected places t)
spellings_selected t places cs h v = ap₂ (λ (fields : List Field) (rows : List Row). map (row_spelling fields) rows) h (rows_selected t places cs v)

pub rows_of_selected : (t : Table) (places : List ℕ) (cs : List Column) → map header cs ≡ map (field_at t.schema) places → values_of cs ≡ map (λ i. column_of i t.rows) places
    → All (IsRowOf (map header cs)) (rows_from (length t.rows) (values_of cs)) → All (IsRowOf (selected places t).schema) (selected places t).rows
rows_of_selected t places cs h v are =
    subst (λ (fields : List Field). All (IsRowOf fields) (selected places t).rows) h
    (subst (All (IsRowOf (map header cs))) (rows_selected t places cs v) are)

-- one more that holds
pub All-take_more : {L : Type 0} (P : L → Type 0) (xs : List L) (i : ℕ) (x : L) → x ≡ get_or xs i x → i < length xs → All P (take i xs) → P x → All P (take (i + 1) xs)
All-take_more P xs i x is below done here =
    subst (All P) (sym (take_more xs i x below ∙ ap (λ y. take i xs ++ y ∷ []) (sym is))) (All-push P (take i xs) x done here)

-- one more item behind the others in a buffer
pub record Ended (f : ℕ → List ℕ) (n : ℕ) (bytes offsets : List ℕ) : Type 0 where
  pub offsets_are : AreOffsets bytes offsets
  pub items_are : byte_items bytes offsets ≡ map f (range_with_len 0 n)

pub ended_more : (f : ℕ → List ℕ) (n e : ℕ) (bytes offsets bytes_new offsets_new : List ℕ) → Ended f n bytes offsets
    → bytes_new ≡ bytes ++ f n → offsets_new ≡ offsets ++ e ∷ [] → e ≡ length bytes_new → Ended f (n + 1) bytes_new offsets_new
ended_more f n e bytes offsets bytes_new offsets_new before is ends at =
    let same : offsets_new ≡ offsets ++ length (bytes ++ f n) ∷ [] = ends ∙ ap (λ (k : ℕ). offsets ++ k ∷ []) (at ∙ ap length is) in
    let more : byte_items (bytes ++ f n) (offsets ++ length (bytes ++ f n) ∷ []) ≡ map f (range_with_len 0 (n + 1)) =
    byte_items_more bytes (f n) offsets before.offsets_are
    ∙ ap (λ (l : List (List ℕ)). l ++ f n ∷ []) before.items_are
    ∙ sym (map-append f (range_with_len 0 n) (n ∷ [])) ∙ ap (map f) (sym (range_upto n)) in
    record {
      offsets_are = rw (is, same) (offsets_more bytes (f n) offsets before.offsets_are);
      items_are = rw (is, same) more;
    }
