-- The columns of rows, side by side, are the rows again.
use Rattle.std.proofs.Common.{◌≡◌, ◌+◌, ℕ, List, [], ◌∷◌, ◌++◌, map, length, take, get_or, Some, slice_get, refl, sym, ap, ◌∙◌, zero-add}
use Rattle.std.specs.List.{All, range_with_len}
use Rattle.std.proofs.lemmas.List.{map-append, take_more}
use Rattle.std.proofs.lemmas.List.FromFn.{fill_by_all, map-range_with_len_more}
use mathlib.Core.List.{map-id}
use Rattle.col_core.specs.declared.schema.Field.{Field}
use Rattle.col_core.specs.declared.leaf.Leaf.{Leaf}
use Rattle.col_core.specs.declared.leaf.Leaf.TheVariants as leaves
use Rattle.col_core.specs.Values.{value_at}
use Rattle.col_core.specs.Tables.{Row, Column, column_of, header, values_of, rows_from}
use Rattle.list_laws.proofs.Maps.{map_agree_on}
use Rattle.col_core.proofs.Rows.{transposed}
use Rattle.serde_json.specs.Data.{Data}
use Rattle.serde_json.specs.View.{items_of}
use Rattle.join_request.specs.Json.{each}
use Rattle.join_request.specs.Frames.{row_of_value, rows_with_columns}
use Rattle.join_request.specs.Columns.{height_under}
use Rattle.join_request.proofs.Rows.{each_length, widths_read, got}

-- the first columns of rows
abbrev pub columns_to : List Row → ℕ → List (List Leaf)
columns_to rows n = map (λ c. column_of c rows) (range_with_len 0 n)

-- one more column
pub headers_more : (columns : List Column) (c : Column) (schema : List Field) (i : ℕ) → map header columns ≡ take i schema → slice_get schema i ≡ Some (header c) → map header (columns ++ c ∷ []) ≡ take (i + 1) schema
headers_more columns c schema i e f =
    let at = got schema i (header c) f in
    map-append header columns (c ∷ []) ∙ ap (λ (xs : List Field). xs ++ header c ∷ []) e ∙ ap (λ (x : Field). take i schema ++ x ∷ []) (sym at.1) ∙ sym (take_more schema i (header c) at.0)

pub values_more : (columns : List Column) (c : Column) (rows : List Row) (i : ℕ) → values_of columns ≡ columns_to rows i → c.values ≡ column_of i rows → values_of (columns ++ c ∷ []) ≡ columns_to rows (i + 1)
values_more columns c rows i e f =
    map-append (λ (c : Column). c.values) columns (c ∷ []) ∙ ap (λ (xs : List (List Leaf)). xs ++ c.values ∷ []) e ∙ ap (λ (x : List Leaf). columns_to rows i ++ x ∷ []) f ∙ sym (map-range_with_len_more (λ c. column_of c rows) 0 i i (zero-add i))

-- rows are read from their columns again
rows_again : (n : ℕ) (rows : List Row) → All (λ (row : Row). length row ≡ n) rows → rows_from (length rows) (columns_to rows n) ≡ rows
rows_again n rows wide =
    transposed (λ c row. value_at row c) (range_with_len 0 n) rows
    ∙ map_agree_on (λ row. map (value_at row) (range_with_len 0 n)) (λ row. row) rows (λ k d h.
    sym (fill_by_all (value_at (get_or rows k d)) (get_or rows k d) n leaves.Null (wide k d h) (λ i l. refl)))
    ∙ map-id rows

-- the frame that is made of the columns of rows
frame_again : (schema : List Field) (rows : List Row) (columns : List Column) → All (λ (row : Row). length row ≡ length schema) rows → values_of columns ≡ columns_to rows (length schema) → rows_from (height_under schema (length rows)) (values_of columns) ≡ rows_with_columns schema rows
frame_again [] rows columns wide e = refl
frame_again (f ∷ fs) rows columns wide e = rw e (rows_again (length (f ∷ fs)) rows wide)

pub frame_read : (schema : List Field) (ds : List Data) (rows : List Row) (columns : List Column) → each (row_of_value schema) (items_of ds) ≡ Some rows → values_of columns ≡ columns_to rows (length schema) → rows_from (height_under schema (length ds)) (values_of columns) ≡ rows_with_columns schema rows
frame_read schema ds rows columns e values =
    rw (← each_length (row_of_value schema) ds rows e) (frame_again schema rows columns (widths_read schema (items_of ds) rows e).0 values)
