use Rattle.std.proofs.Common.{◌≡◌, ◌+◌, ◌∙◌, [], ◌∷◌, ◌++◌, ℕ, Bool, List, length, map, take, drop, ap, ap₂, sym, subst, refl, Bor, arith}
use Rattle.std.specs.List.{All, range_with_len}
use Rattle.std.proofs.lemmas.List.{map-append, length-map, take_all, take_more}
use Rattle.std.proofs.lemmas.List.Elements.{All-push}
use Rattle.col_arrays.specs.Items.{stored}
use Rattle.col_core.specs.declared.leaf.Leaf.{Leaf}
use Rattle.col_core.specs.declared.schema.Field.{Field}
use Rattle.col_core.specs.Values.{Fits}
use Rattle.col_core.specs.Tables.{Column, Row, header, values_of, column_of}
use Rattle.row_code.specs.Spelling.{row_spelling, IsRowOf, HasValueInFront}
use Rattle.row_code.proofs.Columns.{All-shown}
use Rattle.row_code.proofs.Fronts.{drop_field}
use Rattle.row_code.proofs.Decoded.{IsRead, rows_written, rows_past, rests_past, values_next, read_more, columns_under, rows_again}
use Rattle.row_code.proofs.decode.read_columns.Goals as goal

pub read_column-requires : goal.read_column-requires
read_column-requires c =
    let fields = c.args.fields.now in
    let j = c.loop-field.field-index in
    let f = c.field-item.result in
    let shown = λ (b : Bor (List ℕ)). b.now in
    let rests = c.loop-field.rests.items in
    let at = drop_field fields j f c.field-item.is c.loop-field-test.true in
    let written = rows_written fields (stored c.args.taken.now) c.requires in
    let past = rests_past fields written.rows j (values_of c.loop-field.columns.items) (map shown rests) f (drop (j + 1) fields) at (c.loop-field.invariant.read written.rows written.are written.same) in
    let are = subst (λ (l : List Field). All (IsRowOf l) (map (drop j) written.rows)) at (rows_past j fields written.rows written.are) in
    All-shown shown (HasValueInFront f.dtype) rests (map shown rests) refl (values_next f (drop (j + 1) fields) (map (drop j) written.rows) (map shown rests) are past)

pub loop-field-preserved : goal.loop-field-preserved
loop-field-preserved c =
    let fields = c.args.fields.now in
    let j = c.loop-field.field-index in
    let f = c.field-item.result in
    let fs = drop (j + 1) fields in
    let shown = λ (b : Bor (List ℕ)). b.now in
    let rests = map shown c.loop-field.rests.items in
    let columns = c.loop-field.columns.items in
    let column = c.in_ok-read_column.field-0 in
    let pushed : c.push.new.self.items ≡ columns ++ column ∷ [] = c.in_ok-push.ensures.items in
    let at = drop_field fields j f c.field-item.is c.loop-field-test.true in
    let AllFit : Column → Type 0 = λ x. All (Fits x.dtype) x.values in
    record {
      headers = ap (map header) pushed ∙ map-append header columns (column ∷ [])
          ∙ ap₂ (λ (hs : List Field) (h : Field). hs ++ h ∷ []) c.loop-field.invariant.headers (c.in_ok-read_column.ensures.header ∙ c.field-item.is)
          ∙ sym (take_more fields j f c.loop-field-test.true);
      fits = subst (All AllFit) (sym pushed) (All-push AllFit columns column c.loop-field.invariant.fits c.in_ok-read_column.ensures.fits);
      read = λ rows are same.
          let before = c.loop-field.invariant.read rows are same in
          let past = rests_past fields rows j (values_of columns) rests f fs at before in
          let left = subst (λ (l : List Field). All (IsRowOf l) (map (drop j) rows)) at (rows_past j fields rows are) in
          let got = c.in_ok-read_column.ensures.read fs (map (drop j) rows) left past in
          let values : values_of c.push.new.self.items ≡ values_of columns ++ column.values ∷ [] = ap values_of pushed ∙ map-append (λ (x : Column). x.values) columns (column ∷ []) in
          subst (λ (vs : List (List Leaf)). IsRead fields rows (j + 1) vs (map shown c.read_column.new.rows.items)) (sym values)
          (read_more fields rows j (values_of columns) rests fs column.values (map shown c.read_column.new.rows.items) refl before got.0 got.1);
    }

-- as many rows as bytes of rows
as_many : (fields : List Field) (rows : List Row) (taken : List (List ℕ × Bool)) → stored taken ≡ map (row_spelling fields) rows → length rows ≡ length taken
as_many fields rows taken same = sym (length-map rows (row_spelling fields)) ∙ ap length (sym same) ∙ length-map taken (λ (item : List ℕ × Bool). item.0)

pub returns-clause-columns : goal.returns-clause-columns
returns-clause-columns c =
    let fields = c.args.fields.now in
    let j = c.loop-field.field-index in
    let columns = c.loop-field.columns.items in
    let written = rows_written fields (stored c.args.taken.now) c.requires in
    let whole : j ≡ length fields = omega arith in
    let headers : map header columns ≡ fields = c.loop-field.invariant.headers ∙ take_all j fields c.loop-field-test.false in
    let values : values_of columns ≡ map (λ (k : ℕ). column_of k written.rows) (range_with_len 0 (length fields)) =
    (c.loop-field.invariant.read written.rows written.are written.same).columns_are ∙ ap (λ (n : ℕ). map (λ (k : ℕ). column_of k written.rows) (range_with_len 0 n)) whole in
    columns_under fields written.rows columns (length c.args.taken.now) written.are headers values c.loop-field.invariant.fits (as_many fields written.rows c.args.taken.now written.same)

pub returns-clause-rows : goal.returns-clause-rows
returns-clause-rows c = λ rows are same.
    let fields = c.args.fields.now in
    let j = c.loop-field.field-index in
    let columns = c.loop-field.columns.items in
    let whole : j ≡ length fields = omega arith in
    let values : values_of columns ≡ map (λ (k : ℕ). column_of k rows) (range_with_len 0 (length fields)) =
    (c.loop-field.invariant.read rows are same).columns_are ∙ ap (λ (n : ℕ). map (λ (k : ℕ). column_of k rows) (range_with_len 0 n)) whole in
    rows_again fields rows columns (length c.args.taken.now) are values (as_many fields rows c.args.taken.now same)
