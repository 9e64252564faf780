use denote.Ref.{Bor}
use Rattle.std.proofs.lemmas.List.{length-map}
use Rattle.serde_json.specs.Data.{array}
use Rattle.serde_json.specs.View.{items_view}
use Rattle.serde_json.specs.declared.value.Value.{Value}
use Rattle.std.proofs.Common.{◌≡◌, ℕ, List, map, length, Some, IsSome, slice_get, refl, sym, ap, ◌∙◌, subst, arith, below_more}
use Rattle.std.proofs.lemmas.Result.{err_from_is_err_and}
use Rattle.std.proofs.lemmas.List.Elements.{All-push}
use Rattle.col_core.specs.declared.schema.Field.{Field}
use Rattle.std.specs.List.{All}
use Rattle.col_core.specs.Values.{Fits}
use Rattle.col_core.specs.Tables.{Column, values_of, rows_from}
use Rattle.join_request.specs.Json.{each}
use Rattle.join_request.specs.Frames.{row_of_value, rows_with_columns}
use Rattle.join_request.specs.Columns.{leaf_in, row_views, rows_view, height_under}
use Rattle.join_request.proofs.Rows.{refused_column, column_read, some_rows, some_value, each_length, got}
use Rattle.join_request.proofs.Columns.{columns_to, headers_more, values_more, frame_read}
use Rattle.join_request.proofs.frames.frame_of_rows.Goals as goal

views_long : (rows : List (Bor (List Value))) → length (row_views (map (λ (row : Bor (List Value)). row.now) rows)) ≡ length rows
views_long rows = length-map (map (λ (row : Bor (List Value)). row.now) rows) (λ items. array (items_view items)) ∙ length-map rows (λ (row : Bor (List Value)). row.now)

pub returns-in_err-read_column-clause-err : goal.returns-in_err-read_column-clause-err
returns-in_err-read_column-clause-err c =
    let p = err_from_is_err_and c.from_residual.result c.from_residual.ensures.1 in
    let refused = refused_column c.args.schema.now (rows_view (map (λ row. row.now) c.args.rows.now)) c.loop-i.i c.field.result.now c.field.ensures in
    rw (p.1, p.2) (refused c.in_err-read_column.field-0.0 c.in_err-read_column.ensures.err)

pub loop-i-preserved : goal.loop-i-preserved
loop-i-preserved c =
    let schema = c.args.schema.now in
    let views = row_views (map (λ row. row.now) c.args.rows.now) in
    let items = rows_view (map (λ row. row.now) c.args.rows.now) in
    let columns = c.loop-i.columns.items in
    let column = c.in_ok-read_column.field-0 in
    let i = c.loop-i.i in
    let field = c.field.result.now in
    let read : each (leaf_in i field.dtype) items ≡ Some column.values = c.in_ok-read_column.ensures.ok in
    let P : Column → Type 0 = λ x. length x.values ≡ length c.args.rows.now in
    let AllFit : Column → Type 0 = λ x. All (Fits x.dtype) x.values in
    let IsRead : ℕ → Type 0 = λ k. (f : Field) → slice_get schema k ≡ Some f → IsSome (each (leaf_in k f.dtype) items) in
    rw c.in_ok-push.ensures.items record {
      headers = headers_more columns column schema i c.loop-i.invariant.headers (c.field.ensures ∙ ap Some (sym c.in_ok-read_column.ensures.header));
      lengths = All-push P columns column c.loop-i.invariant.lengths (each_length (leaf_in i field.dtype) views column.values read ∙ views_long c.args.rows.now);
      fits = All-push AllFit columns column c.loop-i.invariant.fits c.in_ok-read_column.ensures.fits;
      values = λ rows e. let is = column_read schema items rows i field e c.field.ensures in values_more columns column rows i (c.loop-i.invariant.values rows e) (cc (read, is));
      read = below_more IsRead i c.loop-i.invariant.read (λ f e. let same : field ≡ f = cc (e, c.field.ensures) in subst (λ (x : Field). IsSome (each (leaf_in i x.dtype) items)) same (rw read refl));
    }

pub returns-clause-ok : goal.returns-clause-ok
returns-clause-ok c =
    let schema = c.args.schema.now in
    let columns = c.loop-i.columns.items in
    let whole : c.loop-i.i ≡ length schema = omega (arith, c.len-i-end.ensures) in
    let found = some_value (each (row_of_value schema) (rows_view (map (λ row. row.now) c.args.rows.now))) (some_rows schema (rows_view (map (λ row. row.now) c.args.rows.now)) c.requires (λ k f e. c.loop-i.invariant.read k (omega (arith, (got schema k f e).0)) f e)) in
    let values = subst (λ (n : ℕ). values_of columns ≡ columns_to found.0 n) whole (c.loop-i.invariant.values found.0 found.1) in
    let frame = subst (λ (n : ℕ). rows_from (height_under schema n) (values_of columns) ≡ rows_with_columns schema found.0) (views_long c.args.rows.now) (frame_read schema (row_views (map (λ row. row.now) c.args.rows.now)) found.0 columns found.1 values) in
    rw found.1 (ap Some (sym (c.from_columns.ensures ∙ rw (c.in_ok-try_clone.ensures, c.height_under-height.ensures, frame) refl)))
