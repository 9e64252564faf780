-- Columns that grow, and the rows that they make.
use Rattle.std.proofs.Common.{◌≡◌, ℕ, ◌+◌, ◌-◌, ◌<◌, ◌≤◌, List, [], ◌++◌, map, length, get_or, slice_get, Some, refl, sym, ap, ap₂, ◌∙◌, subst, arith, zero-add, inl, inr}
use Rattle.std.specs.List.{All, range_with_len}
use Rattle.std.proofs.lemmas.Bool.{cases_lt}
use Rattle.std.proofs.lemmas.List.{length-map, get_or-map, length-append, get_or_append_left, get_or-append_right, get_or_default}
use Rattle.std.proofs.lemmas.List.Elements.{All-get_or, All-map}
use Rattle.std.proofs.lemmas.List.FromFn.{get_or-map-range_with_len}
use mathlib.Core.List.{map-map}
use Rattle.list_laws.proofs.Each.{All-from_Each, Each-map}
use Rattle.list_laws.proofs.Lists.{made_same, map_same}
use Rattle.list_laws.proofs.Maps.{read_all}
use Rattle.list_laws.proofs.Ranges.{Each-range}
use Rattle.col_core.specs.declared.data_type.DataType.{DataType}
use Rattle.col_core.specs.declared.data_type.DataType.TheVariants.{Binary}
use Rattle.col_core.specs.declared.leaf.Leaf.{Leaf}
use Rattle.col_core.specs.declared.leaf.Leaf.TheVariants as leaves
use Rattle.col_core.specs.declared.schema.Field.{Field}
use Rattle.col_core.specs.Tables.{Column, Growing, Row, Table, AreWide, header, row_at, column_of, field_at, no_field}
use Rattle.col_core.specs.Values.{value_at}
use Rattle.col_core.proofs.Rows.{field_found, length-rows}
use Rattle.pair_rows.specs.Growing.{AreGrowing, ExtendedUpTo, growing_rows, empty_column, column_at, extended}

-- columns without values
pub none_growing : (schema : List Field) (columns : List Growing) → columns ≡ map empty_column schema → AreGrowing schema columns 0
none_growing schema columns e = record {
  types = ap (map (λ (c : Growing). c.dtype)) e ∙ map-map (λ (c : Growing). c.dtype) empty_column schema;
  lengths = subst (All (λ (c : Growing). length c.values ≡ 0)) (sym e) (All-map (λ (c : Growing). length c.values ≡ 0) empty_column schema (λ k d l. refl));
}

-- the columns as they stand are none extended
pub none_extended : (rows : Table) (columns : List Growing) → ExtendedUpTo rows 0 columns columns
none_extended rows columns = record { long = refl; done = λ c l. absurd (grind arith); rest = λ c l. refl }

-- a row is its values
row_whole : (row : Row) (width : ℕ) → length row ≡ width → map (value_at row) (range_with_len 0 width) ≡ row
row_whole row width h = made_same (value_at row) width row leaves.Null h (λ k l. refl)

module _ (schema : List Field) (height : ℕ) (olds news : List Growing) (rows : Table) (under : AreGrowing schema olds height) (same : rows.schema ≡ schema) (grown : ExtendedUpTo rows (length olds) olds news) where
  abbrev places : List ℕ
  places = range_with_len 0 (length olds)

  abbrev more : ℕ
  more = length rows.rows

  abbrev new_values : ℕ → List Leaf
  new_values c = (column_at olds c).values ++ column_of c rows.rows

  news_are : news ≡ map (λ c. extended rows c (column_at olds c)) places
  news_are = sym (made_same (λ c. extended rows c (column_at olds c)) (length olds) news (empty_column no_field) grown.long (λ k l. sym (grown.done k l)))

  values_are : map (λ (c : Growing). c.values) news ≡ map new_values places
  values_are = ap (map (λ (c : Growing). c.values)) news_are ∙ map-map (λ (c : Growing). c.values) (λ c. extended rows c (column_at olds c)) places

  width : length olds ≡ length rows.schema
  width = sym (length-map olds (λ (c : Growing). c.dtype)) ∙ ap length under.types ∙ length-map schema (λ (f : Field). f.dtype) ∙ ap length (sym same)

  old_long : (c : ℕ) → c < length olds → length (column_at olds c).values ≡ height
  old_long c l = All-get_or (λ (x : Growing). length x.values ≡ height) olds c (empty_column no_field) l under.lengths

  -- a row that was there
  row_before : (k : ℕ) → k < height → row_at (map (λ (c : Growing). c.values) news) k ≡ row_at (map (λ (c : Growing). c.values) olds) k
  row_before k l =
      let at : List Leaf → Leaf = λ vs. value_at vs k in
      ap (map at) values_are
      ∙ map-map at new_values places
      ∙ map_same (λ c. at (new_values c)) (λ c. at (column_at olds c).values) places (Each-range (λ c. at (new_values c) ≡ at (column_at olds c).values) 0 (length olds) (λ c low high.
      get_or_append_left (column_at olds c).values (column_of c rows.rows) leaves.Null k (subst (λ (n : ℕ). k < n) (sym (old_long c (omega (arith, high)))) l)))
      ∙ sym (map-map (λ (g : Growing). at g.values) (column_at olds) places)
      ∙ ap (map (λ (g : Growing). at g.values)) (read_all olds (empty_column no_field))
      ∙ sym (map-map at (λ (c : Growing). c.values) olds)

  -- a row of the frame
  row_after : AreWide rows → (k : ℕ) → height ≤ k → k < height + more → row_at (map (λ (c : Growing). c.values) news) k ≡ get_or rows.rows (k - height) []
  row_after wide k h l =
      let at : List Leaf → Leaf = λ vs. value_at vs k in
      let row = get_or rows.rows (k - height) [] in
      let inside : k - height < more = omega (arith, h, l) in
      ap (map at) values_are
      ∙ map-map at new_values places
      ∙ map_same (λ c. at (new_values c)) (value_at row) places (Each-range (λ c. at (new_values c) ≡ value_at row c) 0 (length olds) (λ c low high.
      get_or-append_right (column_at olds c).values (column_of c rows.rows) height k leaves.Null (old_long c (omega (arith, high))) h
      ∙ get_or-map (λ (r : Row). value_at r c) rows.rows (k - height) [] leaves.Null inside))
      ∙ row_whole row (length olds) (All-get_or (λ (r : Row). length r ≡ length rows.schema) rows.rows (k - height) [] inside wide ∙ sym width)

  -- the rows are those that were there, and those of the frame
  pub rows_extended : AreWide rows → growing_rows news (height + more) ≡ growing_rows olds height ++ rows.rows
  rows_extended wide = made_same (row_at (map (λ (c : Growing). c.values) news)) (height + more) (growing_rows olds height ++ rows.rows) [] long each
    where
      old_rows : length (growing_rows olds height) ≡ height
      old_rows = length-rows height (map (λ (c : Growing). c.values) olds)

      long : length (growing_rows olds height ++ rows.rows) ≡ height + more
      long = length-append (growing_rows olds height) rows.rows ∙ ap (λ (n : ℕ). n + more) old_rows

      each : (k : ℕ) → k < height + more → row_at (map (λ (c : Growing). c.values) news) k ≡ get_or (growing_rows olds height ++ rows.rows) k []
      each k l = elim (cases_lt k height) [
        | inl below ↦ row_before k below
            ∙ sym (get_or_append_left (growing_rows olds height) rows.rows [] k (subst (λ (n : ℕ). k < n) (sym old_rows) below)
            ∙ get_or-map-range_with_len (row_at (map (λ (c : Growing). c.values) olds)) 0 height k k [] below (zero-add k))
        | inr above ↦ row_after wide k above l
            ∙ sym (get_or-append_right (growing_rows olds height) rows.rows height k [] old_rows above)
      ]

  -- and the columns stand under the schema
  pub growing_extended : AreGrowing schema news (height + more)
  growing_extended = record {
    types = ap (map (λ (c : Growing). c.dtype)) news_are
        ∙ map-map (λ (c : Growing). c.dtype) (λ c. extended rows c (column_at olds c)) places
        ∙ sym (map-map (λ (c : Growing). c.dtype) (column_at olds) places)
        ∙ ap (map (λ (c : Growing). c.dtype)) (read_all olds (empty_column no_field))
        ∙ under.types;
    lengths = subst (All (λ (c : Growing). length c.values ≡ height + more)) (sym news_are)
        (All-from_Each (λ (c : Growing). length c.values ≡ height + more) (map (λ c. extended rows c (column_at olds c)) places)
        (Each-map (λ (c : Growing). length c.values ≡ height + more) (λ c. extended rows c (column_at olds c)) places
        (Each-range (λ c. length (new_values c) ≡ height + more) 0 (length olds) (λ c low high.
        length-append (column_at olds c).values (column_of c rows.rows) ∙ ap₂ (λ (n m : ℕ). n + m) (old_long c (omega (arith, high))) (length-map rows.rows (λ (r : Row). value_at r c))))));
  }

-- a column of a frame of the schema has the type of the column at its place
pub source_type : (schema : List Field) (height i : ℕ) (olds news : List Growing) (rows : Table) (source : Column) (column : Growing) → AreGrowing schema olds height → rows.schema ≡ schema → ExtendedUpTo rows i olds news
    → i < length news → column ≡ get_or news i column → slice_get rows.schema i ≡ Some (header source) → source.dtype ≡ column.dtype
source_type schema height i olds news rows source column under same grown inside at found =
    let old_inside : i < length olds = subst (λ (n : ℕ). i < n) grown.long inside in
    let long : length olds ≡ length schema = sym (length-map olds (λ (c : Growing). c.dtype)) ∙ ap length under.types ∙ length-map schema (λ (f : Field). f.dtype) in
    let is : column_at olds i ≡ column = sym (grown.rest i (omega arith)) ∙ get_or_default news i (empty_column no_field) column inside ∙ sym at in
    ap (λ (f : Field). f.dtype) (sym (field_found rows.schema i (header source) found) ∙ ap (λ (fs : List Field). field_at fs i) same)
    ∙ sym (get_or-map (λ (f : Field). f.dtype) schema i no_field Binary (subst (λ (n : ℕ). i < n) long old_inside))
    ∙ ap (λ (ts : List DataType). get_or ts i Binary) (sym under.types)
    ∙ get_or-map (λ (c : Growing). c.dtype) olds i (empty_column no_field) Binary old_inside
    ∙ ap (λ (c : Growing). c.dtype) is

-- as many rows as were counted
pub growing_long : (columns : List Growing) (height : ℕ) → length (growing_rows columns height) ≡ height
growing_long columns height = length-rows height (map (λ (c : Growing). c.values) columns)

pub ruleset growing = (none_growing, none_extended, growing_long)
