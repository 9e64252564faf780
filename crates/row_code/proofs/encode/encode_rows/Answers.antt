use Rattle.std.proofs.Common.{◌≡◌, ◌∙◌, ℕ, List, map, length, ap, subst, Bor}
use Rattle.std.specs.List.{All}
use Rattle.std.proofs.lemmas.List.{take_all}
use Rattle.std.proofs.lemmas.Result.{IfOk-weaker}
use Rattle.col_arrays.specs.Items.{all_present}
use Rattle.col_core.specs.declared.series.Series.{Series}
use Rattle.col_core.specs.Refusals.{height_of}
use Rattle.col_core.specs.Tables.{Column, header, values_of, rows_from}
use Rattle.row_code.specs.Spelling.{row_spelling, IsRowOf}
use Rattle.row_code.proofs.Columns.{All-shown, spellings_shown, rows_shown}
use Rattle.row_code.proofs.encode.encode_rows.Goals as goal

pub encode_lent-requires : goal.encode_lent-requires
encode_lent-requires c =
    let columns = c.args.columns.now in
    let shown = λ (s : Bor Series). s.now in
    let are : map shown c.loop-column.lent.items ≡ columns = c.loop-column.invariant ∙ take_all c.loop-column.column-index columns c.loop-column-test.false in
    rw (c.deref.ensures.value, c.height_of-height.ensures) (All-shown shown (λ (x : Column). length x.values ≡ height_of columns) c.loop-column.lent.items columns are c.requires)

pub returns-clause-items : goal.returns-clause-items
returns-clause-items c =
    let columns = c.args.columns.now in
    let shown = λ (s : Bor Series). s.now in
    let are : map shown c.deref.result.now ≡ columns = ap (map shown) c.deref.ensures.value ∙ c.loop-column.invariant ∙ take_all c.loop-column.column-index columns c.loop-column-test.false in
    IfOk-weaker c.encode_lent.result _ _ (λ a is. is ∙ ap all_present (spellings_shown shown c.deref.result.now columns c.height_of-height.result are ∙ ap (λ (n : ℕ). map (row_spelling (map header columns)) (rows_from n (values_of columns))) c.height_of-height.ensures)) c.encode_lent.ensures.items

pub returns-clause-rows : goal.returns-clause-rows
returns-clause-rows c =
    let columns = c.args.columns.now in
    let shown = λ (s : Bor Series). s.now in
    let are : map shown c.deref.result.now ≡ columns = ap (map shown) c.deref.ensures.value ∙ c.loop-column.invariant ∙ take_all c.loop-column.column-index columns c.loop-column-test.false in
    IfOk-weaker c.encode_lent.result _ _ (λ a is. subst (λ (n : ℕ). All (IsRowOf (map header columns)) (rows_from n (values_of columns))) c.height_of-height.ensures (rows_shown shown c.deref.result.now columns c.height_of-height.result are is)) c.encode_lent.ensures.values
