-- Columns that have grown, finished one by one under the names of fields.
use Rattle.std.proofs.Common.{◌≡◌, ℕ, ◌+◌, ◌<◌, List, [], ◌∷◌, ◌++◌, map, length, get_or, slice_get, take, Some, sym, ap, ◌∙◌, subst, arith}
use Rattle.std.specs.List.{All}
use Rattle.std.proofs.lemmas.List.{append-nil, append_assoc, length-append, length-map, map-append, get_or-map, take_more}
use Rattle.std.proofs.Math.Seq.{get_or-append_seam, take-length}
use mathlib.Core.List.{map-map}
use Rattle.col_core.specs.declared.data_type.DataType.{DataType}
use Rattle.col_core.specs.declared.data_type.DataType.TheVariants.{Binary}
use Rattle.col_core.specs.declared.schema.Field.{Field}
use Rattle.col_core.specs.Tables.{AreColumnsOf, Column, Growing, header, rows_from, values_of, field_at, no_field}
use Rattle.col_core.specs.Values.{Fits}
use Rattle.col_core.proofs.Rows.{field_found}
use Rattle.pair_rows.specs.Growing.{AreGrowing, growing_rows, empty_column, column_at}

-- a column without its name
abbrev unnamed : Column → Growing
unnamed c = record { dtype = c.dtype; values = c.values }

abbrev pub finished : Growing → Field → Column
finished c f = record { name = f.name; dtype = c.dtype; values = c.values }

-- some columns are finished under the first fields, and the others are left
pub record IsFinishing (schema : List Field) (columns : List Growing) (done : List Column) (rest : List Growing) : Type 0 where
  pub parts : map unnamed done ++ rest ≡ columns
  pub headers : map header done ≡ take (length done) schema

module _ (schema : List Field) (columns : List Growing) (height : ℕ) (under : AreGrowing schema columns height) where
  long : length columns ≡ length schema
  long = sym (length-map columns (λ (c : Growing). c.dtype)) ∙ ap length under.types ∙ length-map schema (λ (f : Field). f.dtype)

  done_long : (done : List Column) (rest : List Growing) → map unnamed done ++ rest ≡ columns → length done + length rest ≡ length schema
  done_long done rest e = ap (λ (n : ℕ). n + length rest) (sym (length-map done unnamed)) ∙ sym (length-append (map unnamed done) rest) ∙ ap length e ∙ long

  -- there is a field for the next column
  pub field_left : (done : List Column) (rest : List Growing) (c : Growing) → IsFinishing schema columns done (c ∷ rest) → length done < length schema
  field_left done rest c h = omega (arith, done_long done (c ∷ rest) h.parts)

  -- of its type
  type_left : (done : List Column) (rest : List Growing) (c : Growing) (f : Field) → IsFinishing schema columns done (c ∷ rest) → field_at schema (length done) ≡ f → c.dtype ≡ f.dtype
  type_left done rest c f h found =
      let inside = field_left done rest c h in
      let at : column_at columns (length done) ≡ c = ap (λ (cs : List Growing). column_at cs (length done)) (sym h.parts) ∙ ap (λ (n : ℕ). column_at (map unnamed done ++ c ∷ rest) n) (sym (length-map done unnamed)) ∙ get_or-append_seam (map unnamed done) c rest (empty_column no_field) in
      ap (λ (x : Growing). x.dtype) (sym at)
      ∙ sym (get_or-map (λ (x : Growing). x.dtype) columns (length done) (empty_column no_field) Binary (subst (λ (n : ℕ). length done < n) (sym long) inside))
      ∙ ap (λ (ts : List DataType). get_or ts (length done) Binary) under.types
      ∙ get_or-map (λ (x : Field). x.dtype) schema (length done) no_field Binary inside
      ∙ ap (λ (x : Field). x.dtype) found

  -- one more column
  pub finishing_more : (done : List Column) (rest : List Growing) (c : Growing) (f : Field) → slice_get schema (length done) ≡ Some f → IsFinishing schema columns done (c ∷ rest) → IsFinishing schema columns (done ++ finished c f ∷ []) rest
  finishing_more done rest c f found h =
      let inside = field_left done rest c h in
      let at = field_found schema (length done) f found in
      let named : DataType → Field = λ t. record { name = f.name; dtype = t } in
      record {
        parts = ap (λ (cs : List Growing). cs ++ rest) (map-append unnamed done (finished c f ∷ [])) ∙ append_assoc (map unnamed done) (c ∷ []) rest ∙ h.parts;
        headers = map-append header done (finished c f ∷ [])
            ∙ ap (λ (fs : List Field). fs ++ header (finished c f) ∷ []) h.headers
            ∙ ap (λ (g : Field). take (length done) schema ++ g ∷ []) (ap named (type_left done rest c f h at) ∙ sym at)
            ∙ sym (take_more schema (length done) no_field inside)
            ∙ ap (λ (n : ℕ). take n schema) (sym (length-append done (finished c f ∷ [])));
      }

  -- when all are finished
  module _ (done : List Column) (h : IsFinishing schema columns done []) where
    all_are : map unnamed done ≡ columns
    all_are = sym (append-nil (map unnamed done)) ∙ h.parts

    pub under_finished : All (λ (c : Column). All (Fits c.dtype) c.values) done → AreColumnsOf schema done height
    under_finished fits = record {
      headers = h.headers ∙ ap (λ (n : ℕ). take n schema) (sym (length-map done unnamed) ∙ ap length all_are ∙ long) ∙ take-length schema;
      lengths = λ k d l. ap (λ (x : Growing). length x.values) (sym (get_or-map unnamed done k d (unnamed d) l) ∙ ap (λ (cs : List Growing). get_or cs k (unnamed d)) all_are)
          ∙ under.lengths k (unnamed d) (subst (λ (n : ℕ). k < n) (sym (length-map done unnamed) ∙ ap length all_are) l);
      fits = fits;
    }

    pub rows_finished : rows_from height (values_of done) ≡ growing_rows columns height
    rows_finished = ap (rows_from height) (sym (map-map (λ (x : Growing). x.values) unnamed done) ∙ ap (map (λ (x : Growing). x.values)) all_are)
