-- Values at places.
use Rattle.std.proofs.Common.{◌≡◌, ◌<◌, ◌∙◌, ℕ, zero, suc, List, [], ◌∷◌, map, length, get_or, slice_get, Option, Some, None, refl, sym, ap, subst, arith}
use Rattle.std.specs.List.{All}
use Rattle.std.proofs.lemmas.List.{length-map, get_or-map}
use Rattle.std.proofs.lemmas.List.Elements.{All-get_or, All-map, All-weaker}
use Rattle.col_core.specs.declared.leaf.Leaf.{Leaf}
use Rattle.col_core.specs.declared.leaf.Leaf.TheVariants as leaves
use Rattle.col_core.specs.declared.data_type.DataType.{DataType}
use Rattle.col_core.specs.declared.schema.Field.{Field}
use Rattle.col_core.specs.declared.row_place.RowPlace.{RowPlace}
use Rattle.col_core.specs.Values.{value_at, Fits}
use Rattle.col_core.specs.Tables.{Row, Table, Column, column_of, header}
use Rattle.col_core.specs.Places.{IsPlaceIn, IsWithin, placed_value, picked, type_at, no_table}
use Rattle.col_core.specs.declared.chunk.Chunk.{Chunk}
use Rattle.col_core.specs.Physical.{physical_of}
use Rattle.col_core.specs.Tables.{IsOfKind, chunk_physical}
use Rattle.col_core.proofs.Rows.{map_agree_on}

column_at : (frames : List Table) (column i : ℕ) → i < length frames → get_or (map (λ (f : Table). column_of column f.rows) frames) i [] ≡ column_of column (get_or frames i no_table).rows
column_at frames column i h = get_or-map (λ (f : Table). column_of column f.rows) frames i no_table [] h

-- places within frames are within each column of theirs
pub place_within : (frames : List Table) (column : ℕ) (place : Option RowPlace) → IsPlaceIn frames place → IsWithin (map (λ f. column_of column f.rows) frames) place
place_within frames column None h = tt
place_within frames column (Some p) h =
    let rows = (get_or frames p.frame no_table).rows in
    subst (λ (n : ℕ). p.row < n) (sym (ap length (column_at frames column p.frame h.frame) ∙ length-map rows (λ (row : Row). value_at row column))) h.row

pub places_within : (frames : List Table) (column : ℕ) (places : List (Option RowPlace)) → All (IsPlaceIn frames) places → All (IsWithin (map (λ f. column_of column f.rows) frames)) places
places_within frames column places all = All-weaker (IsPlaceIn frames) (IsWithin (map (λ f. column_of column f.rows) frames)) (λ p h. place_within frames column p h) places all

-- the value at a place of the columns is that of the row there
picked_placed : (frames : List Table) (column : ℕ) (place : Option RowPlace) → IsPlaceIn frames place → picked (map (λ f. column_of column f.rows) frames) place ≡ placed_value frames column place
picked_placed frames column None h = refl
picked_placed frames column (Some p) h =
    let rows = (get_or frames p.frame no_table).rows in
    ap (λ (vs : List Leaf). value_at vs p.row) (column_at frames column p.frame h.frame)
    ∙ get_or-map (λ (row : Row). value_at row column) rows p.row [] leaves.Null h.row

pub all_placed : (frames : List Table) (column : ℕ) (places : List (Option RowPlace)) → All (IsPlaceIn frames) places → map (picked (map (λ f. column_of column f.rows) frames)) places ≡ map (placed_value frames column) places
all_placed frames column places all = map_agree_on (picked (map (λ f. column_of column f.rows) frames)) (placed_value frames column) places (λ k d l. picked_placed frames column (get_or places k d) (all k d l))

-- a place within some lists names one of them
pub list_within : (lists : List (List Leaf)) (i j : ℕ) → j < length (get_or lists i []) → i < length lists
list_within [] i j h = absurd (omega arith)
list_within (x ∷ lists) zero j h = omega arith
list_within (x ∷ lists) (suc i) j h = let on = list_within lists i j h in omega arith

-- values at places fit
fit_picked : (t : DataType) (lists : List (List Leaf)) (place : Option RowPlace) → All (λ values. All (Fits t) values) lists → IsWithin lists place → Fits t (picked lists place)
fit_picked t lists None all h = tt
fit_picked t lists (Some p) all h = All-get_or (Fits t) (get_or lists p.frame []) p.row leaves.Null h (all p.frame [] (list_within lists p.frame p.row h))

pub fits_picked : (t : DataType) (lists : List (List Leaf)) (places : List (Option RowPlace)) → All (λ values. All (Fits t) values) lists → All (IsWithin lists) places → All (Fits t) (map (picked lists) places)
fits_picked t lists places all inside = All-map (Fits t) (picked lists) places (All-weaker (IsWithin lists) (λ (p : Option RowPlace). Fits t (picked lists p)) (λ p h. fit_picked t lists p all h) places inside)

-- the type of a column is that of its field
pub type_of_column : (schema : List Field) (i : ℕ) (c : Column) (t : DataType) → slice_get schema i ≡ Some (header c) → type_at schema i ≡ Some t → c.dtype ≡ t
type_of_column schema i c t h e = cc

pub within_schema : (schema : List Field) (i : ℕ) (t : DataType) → type_at schema i ≡ Some t → i < length schema
within_schema [] i t h = cc
within_schema (f ∷ fs) zero t h = omega arith
within_schema (f ∷ fs) (suc i) t h = let on = within_schema fs i t h in omega arith

-- chunks of columns of one type are kept alike
pub kind_moved : (t u : DataType) (c : Chunk) → u ≡ t → IsOfKind u c → IsOfKind t c
kind_moved t u c e h = sym (ap physical_of e) ∙ h

pub same_kind : (t u : DataType) (c d : Chunk) → u ≡ t → IsOfKind u c → IsOfKind t d → chunk_physical c ≡ chunk_physical d
same_kind t u c d e h k = sym h ∙ ap physical_of e ∙ k

-- what is gathered from the columns of frames
pub gathered_are : (frames : List Table) (column : ℕ) (places : List (Option RowPlace)) (lists : List (List Leaf)) (values : List Leaf) → All (IsPlaceIn frames) places → lists ≡ map (λ f. column_of column f.rows) frames
    → values ≡ map (picked lists) places → values ≡ map (placed_value frames column) places
gathered_are frames column places lists values inside e h = h ∙ ap (λ (ls : List (List Leaf)). map (picked ls) places) e ∙ all_placed frames column places inside

pub gathered_fits : (t : DataType) (frames : List Table) (column : ℕ) (places : List (Option RowPlace)) (lists : List (List Leaf)) (values : List Leaf) → All (IsPlaceIn frames) places → lists ≡ map (λ f. column_of column f.rows) frames
    → values ≡ map (picked lists) places → All (λ vs. All (Fits t) vs) lists → All (Fits t) values
gathered_fits t frames column places lists values inside e h fits =
    subst (All (Fits t)) (sym h) (fits_picked t lists places fits (subst (λ (ls : List (List Leaf)). All (IsWithin ls) places) (sym e) (places_within frames column places inside)))

pub ruleset placing = (places_within, type_of_column, within_schema)

pub ruleset kinds = (kind_moved)
