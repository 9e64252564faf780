use denote.Ref.{Bor}
use Rattle.std.proofs.Common.{◌≡◌, ◌<◌, ℕ, List, length, map, get_or, sym, ap, ◌∙◌, subst, Some, option_map}
use Rattle.std.proofs.lemmas.Result.{err_from_is_err_and}
use Rattle.std.proofs.lemmas.List.{length-map, get_or-map}
use Rattle.serde_json.specs.Data.{array}
use Rattle.serde_json.specs.View.{items_view}
use Rattle.serde_json.specs.declared.value.Value.{Value}
use Rattle.col_core.specs.declared.data_type.DataType.{DataType}
use Rattle.join_request.specs.Columns.{leaf_in, row_views, grown}
use Rattle.join_request.specs.Refused.{Refuses}
use Rattle.join_request.proofs.Rows.{one_more, row_refused, row_view_at}
use Rattle.join_request.proofs.frames.read_values.Goals as goal

views_at : (rows : List (Bor (List Value))) (i : ℕ) (row : Bor (List Value)) → i < length rows → row ≡ get_or rows i row
    → (i < length (row_views (map (λ (r : Bor (List Value)). r.now) rows))) × (array (items_view row.now) ≡ get_or (row_views (map (λ (r : Bor (List Value)). r.now) rows)) i (array (items_view row.now)))
views_at rows i row h is =
    let now : Bor (List Value) → List Value = λ r. r.now in
    let within : i < length (map now rows) = rw (length-map rows now) h in
    row_view_at (map now rows) i row.now within (ap now is ∙ sym (get_or-map now rows i row row.now h))

pub returns-in_err-push_item-clause-err : goal.returns-in_err-push_item-clause-err
returns-in_err-push_item-clause-err g c =
    let row = c.row-item.result in
    let at = views_at c.args.rows.now c.loop-row.row-index row c.loop-row-test.true c.row-item.is in
    let p = err_from_is_err_and c.from_residual.result c.from_residual.ensures.1 in
    let e = c.in_err-push_item.field-0.0 in
    let refused = subst (λ (t : DataType). Refuses (leaf_in c.args.i t (array (items_view row.now))) e) (sym c.requires) c.in_err-push_item.ensures.err in
    rw (p.1, p.2) (row_refused (leaf_in c.args.i c.args.field.now.dtype) (row_views (map (λ row. row.now) c.args.rows.now)) c.loop-row.row-index (array (items_view row.now)) c.loop-row.values.values at.0 at.1 c.loop-row.invariant.read e refused)

pub loop-row-preserved : goal.loop-row-preserved
loop-row-preserved g c =
    let row = c.row-item.result in
    let dtype = c.args.field.now.dtype in
    let at = views_at c.args.rows.now c.loop-row.row-index row c.loop-row-test.true c.row-item.is in
    let pushed = subst (λ (t : DataType). option_map (grown c.loop-row.values) (leaf_in c.args.i t (array (items_view row.now))) ≡ Some c.push_item.new.values) (sym c.requires) c.in_ok-push_item.ensures.ok in
    let step = one_more (leaf_in c.args.i dtype) (row_views (map (λ row. row.now) c.args.rows.now)) c.loop-row.row-index (array (items_view row.now)) c.loop-row.values c.push_item.new.values at.0 at.1 pushed in
    record { dtype = step.0 ∙ c.loop-row.invariant.dtype; read = c.loop-row.invariant.read ∙ step.1 }
