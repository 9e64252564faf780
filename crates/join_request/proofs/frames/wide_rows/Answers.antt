use Rattle.std.proofs.Common.{◌≡◌, ◌≢◌, Some, false, length, inr, refl, sym, ◌∙◌, arith}
use Rattle.std.proofs.lemmas.Bool.Decides.{nat_tests}
use Rattle.serde_json.specs.Find.{as_array}
use Rattle.serde_json.specs.View.{view, items_view}
use Rattle.join_request.specs.Columns.{is_wide}
use Rattle.join_request.proofs.Rows.{wider, narrow, no_list, other_width}
use Rattle.join_request.proofs.frames.wide_rows.Goals as goal
use Rattle.join_request.proofs.frames.wide_rows.Goals.{in_default-via-in-Some+else-len-width, in_default-via-in_default}

pub returns-in_default-clause-err : goal.returns-in_default-clause-err
returns-in_default-clause-err c =
    let row = c.row-item.result in
    let not_wide : is_wide c.args.width (view row) ≡ false = elim c.in_default.branch [
      | in_default-via-in-Some+else-len-width w ↦
          let list : as_array (view row) ≡ Some (items_view w.in-Some.items.now.items) = sym c.as_array.ensures ∙ rw w.in-Some.is refl in
          let other : length w.in-Some.items.now.items ≢ c.args.width = grind (arith, nat_tests) in
          other_width c.args.width w.in-Some.items.now.items (view row) list other
      | in_default-via-in_default w ↦ no_list c.args.width (view row) (sym c.as_array.ensures ∙ rw w.in_default.is refl)
    ] in
    inr (refl, narrow c.args.rows.now c.loop-row.row-index c.args.width row c.loop-row-test.true c.row-item.is not_wide c.loop-row.invariant.are_wide)

pub loop-row-preserved : goal.loop-row-preserved
loop-row-preserved c =
    let row = c.row-item.result in
    let list : as_array (view row) ≡ Some (items_view c.as_slice.result.now) = sym c.as_array.ensures ∙ rw (c.in-Some.is, c.as_slice.ensures.value) refl in
    let long : length c.as_slice.result.now ≡ c.args.width = grind (arith, nat_tests) in
    let more = wider c.loop-row.wide.items c.args.rows.now c.loop-row.row-index c.args.width row c.as_slice.result c.loop-row-test.true c.row-item.is list long c.loop-row.invariant.so_far c.loop-row.invariant.are_wide in
    rw c.in_ok-push-in-Some.ensures.items record { so_far = more.0; are_wide = more.1 }
