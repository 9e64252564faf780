use Rattle.std.proofs.Common.{◌≡◌, ◌∙◌, ◌++◌, [], ◌∷◌, ℕ, List, map, get_or, ap, sym, rules}
use Rattle.std.proofs.lemmas.List.{take_all, map-append}
use Rattle.std.specs.List.{All}
use Rattle.std.proofs.lemmas.List.Elements.{All-push}
use Rattle.col_core.specs.Values.{Fits}
use Rattle.col_core.specs.Tables.{Row, Column, header, field_at, column_of, values_of}
use Rattle.col_core.proofs.Rows.{field_found, mapped_more, under_selected, rows_selected}
use Rattle.col_core.proofs.frame.Frame.select.Goals as goal

pub loop-place-preserved : goal.loop-place-preserved
loop-place-preserved c =
    let t = c.args.self.now in
    let places = c.args.places.now in
    let i = c.loop-place.place-index in
    let done = c.loop-place.columns.items in
    let column = c.column.result.now in
    let pushed : c.push.new.self.items ≡ done ++ column ∷ [] = search rules in
    let AllFit : Column → Type 0 = λ x. All (Fits x.dtype) x.values in
    record {
      fits = rw pushed (All-push AllFit done column c.loop-place.invariant.fits c.column.ensures.fits);
      headers = mapped_more (field_at t.schema) places i 0 (map header done) (map header c.push.new.self.items) (header column) c.loop-place-test.true c.loop-place.invariant.headers (ap (map header) pushed ∙ map-append header done (column ∷ [])) (field_found t.schema (get_or places i 0) (header column) c.column.ensures.header);
      values = mapped_more (λ (k : ℕ). column_of k t.rows) places i 0 (values_of done) (values_of c.push.new.self.items) column.values c.loop-place-test.true c.loop-place.invariant.values (ap values_of pushed ∙ map-append (λ (x : Column). x.values) done (column ∷ [])) (sym c.column.ensures.values);
    }

pub from_columns-requires : goal.from_columns-requires
from_columns-requires c =
    let t = c.args.self.now in
    let places = c.args.places.now in
    let columns = c.loop-place.columns.items in
    let all = take_all c.loop-place.place-index places c.loop-place-test.false in
    let headers : map header columns ≡ map (field_at t.schema) places = c.loop-place.invariant.headers ∙ ap (map (field_at t.schema)) all in
    let values : values_of columns ≡ map (λ (i : ℕ). column_of i t.rows) places = c.loop-place.invariant.values ∙ ap (map (λ (i : ℕ). column_of i t.rows)) all in
    rw (c.in_ok-schema.ensures, c.schema.ensures, c.height.ensures.height) (under_selected t places columns headers values c.loop-place.invariant.fits)

pub returns : goal.returns
returns c =
    let t = c.args.self.now in
    let places = c.args.places.now in
    let columns = c.loop-place.columns.items in
    let all = take_all c.loop-place.place-index places c.loop-place-test.false in
    let values : values_of columns ≡ map (λ (i : ℕ). column_of i t.rows) places = c.loop-place.invariant.values ∙ ap (map (λ (i : ℕ). column_of i t.rows)) all in
    c.from_columns.ensures
    ∙ rw (c.in_ok-schema.ensures, c.schema.ensures, c.height.ensures.height) (ap (λ (rows : List Row). record { schema = map (field_at t.schema) places; rows = rows }) (rows_selected t places columns values))
