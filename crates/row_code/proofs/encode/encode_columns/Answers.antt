use Rattle.std.proofs.Common.{◌≡◌, ◌∙◌, ◌++◌, [], ◌∷◌, ℕ, List, map, length, get_or, ap, sym, subst, refl, rules, Bor}
use Rattle.std.specs.List.{All}
use Rattle.std.proofs.lemmas.List.{take_all, map-append}
use Rattle.std.proofs.lemmas.List.Elements.{All-push}
use Rattle.std.proofs.lemmas.Result.{IfOk-weaker}
use Rattle.col_arrays.specs.Items.{all_present}
use Rattle.col_core.specs.declared.series.Series.{Series}
use Rattle.col_core.specs.declared.schema.Field.{Field}
use Rattle.col_core.specs.Values.{Fits}
use Rattle.col_core.specs.Tables.{Column, Row, header, field_at, column_of, values_of, rows_from}
use Rattle.col_core.proofs.Rows.{field_found, mapped_more, under_selected, rows_selected}
use Rattle.row_code.specs.Spelling.{row_spelling, IsRowOf}
use Rattle.row_code.proofs.Columns.{All-shown, spellings_shown, rows_shown, spellings_selected, rows_of_selected}
use Rattle.row_code.proofs.encode.encode_columns.Goals as goal

pub loop-place-preserved : goal.loop-place-preserved
loop-place-preserved c =
    let t = c.args.frame.now in
    let places = c.args.places.now in
    let i = c.loop-place.place-index in
    let shown = λ (s : Bor Series). s.now in
    let done = map shown c.loop-place.lent.items in
    let column = c.column.result.now in
    let pushed : map shown c.push.new.self.items ≡ done ++ column ∷ [] = ap (map shown) (search rules) ∙ map-append shown c.loop-place.lent.items (c.column.result ∷ []) in
    let AllFit : Column → Type 0 = λ x. All (Fits x.dtype) x.values in
    record {
      fits = rw pushed (All-push AllFit done column c.loop-place.invariant.fits c.column.ensures.fits);
      headers = mapped_more (field_at t.schema) places i 0 (map header done) (map header (map shown c.push.new.self.items)) (header column) c.loop-place-test.true c.loop-place.invariant.headers (ap (map header) pushed ∙ map-append header done (column ∷ [])) (field_found t.schema (get_or places i 0) (header column) c.column.ensures.header);
      values = mapped_more (λ (k : ℕ). column_of k t.rows) places i 0 (values_of done) (values_of (map shown c.push.new.self.items)) column.values c.loop-place-test.true c.loop-place.invariant.values (ap values_of pushed ∙ map-append (λ (x : Column). x.values) done (column ∷ [])) (sym c.column.ensures.values);
    }

pub encode_lent-requires : goal.encode_lent-requires
encode_lent-requires c =
    let t = c.args.frame.now in
    let places = c.args.places.now in
    let shown = λ (s : Bor Series). s.now in
    let ls = c.loop-place.lent.items in
    let all = take_all c.loop-place.place-index places c.loop-place-test.false in
    let headers : map header (map shown ls) ≡ map (field_at t.schema) places = c.loop-place.invariant.headers ∙ ap (map (field_at t.schema)) all in
    let values : values_of (map shown ls) ≡ map (λ (i : ℕ). column_of i t.rows) places = c.loop-place.invariant.values ∙ ap (map (λ (i : ℕ). column_of i t.rows)) all in
    rw (c.deref.ensures.value, c.height-height.ensures.height) (All-shown shown (λ (x : Column). length x.values ≡ length t.rows) ls (map shown ls) refl (under_selected t places (map shown ls) headers values c.loop-place.invariant.fits).lengths)

pub returns-clause-items : goal.returns-clause-items
returns-clause-items c =
    let t = c.args.frame.now in
    let places = c.args.places.now in
    let shown = λ (s : Bor Series). s.now in
    let ls = c.loop-place.lent.items in
    let all = take_all c.loop-place.place-index places c.loop-place-test.false in
    let headers : map header (map shown ls) ≡ map (field_at t.schema) places = c.loop-place.invariant.headers ∙ ap (map (field_at t.schema)) all in
    let values : values_of (map shown ls) ≡ map (λ (i : ℕ). column_of i t.rows) places = c.loop-place.invariant.values ∙ ap (map (λ (i : ℕ). column_of i t.rows)) all in
    let height : c.height-height.result ≡ length t.rows = c.height-height.ensures.height in
    IfOk-weaker c.encode_lent.result _ _ (λ a is. is ∙ ap all_present (spellings_shown shown c.deref.result.now (map shown ls) c.height-height.result (ap (map shown) c.deref.ensures.value)
    ∙ ap (λ (n : ℕ). map (row_spelling (map header (map shown ls))) (rows_from n (values_of (map shown ls)))) height
    ∙ spellings_selected t places (map shown ls) headers values)) c.encode_lent.ensures.items

pub returns-clause-rows : goal.returns-clause-rows
returns-clause-rows c =
    let t = c.args.frame.now in
    let places = c.args.places.now in
    let shown = λ (s : Bor Series). s.now in
    let ls = c.loop-place.lent.items in
    let all = take_all c.loop-place.place-index places c.loop-place-test.false in
    let headers : map header (map shown ls) ≡ map (field_at t.schema) places = c.loop-place.invariant.headers ∙ ap (map (field_at t.schema)) all in
    let values : values_of (map shown ls) ≡ map (λ (i : ℕ). column_of i t.rows) places = c.loop-place.invariant.values ∙ ap (map (λ (i : ℕ). column_of i t.rows)) all in
    let height : c.height-height.result ≡ length t.rows = c.height-height.ensures.height in
    IfOk-weaker c.encode_lent.result _ _ (λ a is. rows_of_selected t places (map shown ls) headers values
    (subst (λ (n : ℕ). All (IsRowOf (map header (map shown ls))) (rows_from n (values_of (map shown ls)))) height
    (rows_shown shown c.deref.result.now (map shown ls) c.height-height.result (ap (map shown) c.deref.ensures.value) is))) c.encode_lent.ensures.values
