use Rattle.std.proofs.Common.{◌≡◌, ◌∙◌, ◌<◌, ℕ, Bool, List, length, filter, sym, ap, ap₂, subst}
use Rattle.std.specs.List.{All}
use Rattle.std.proofs.lemmas.Result.{IfOk-weaker}
use Rattle.col_core.specs.declared.schema.Field.{Field}
use Rattle.col_core.specs.Tables.{Row, Table, rows_at}
use Rattle.join_model.specs.ColumnRefs.{ref_value}
use Rattle.join_model.specs.Filtered.{holds, operand_value}
use Rattle.join_pairs.proofs.Rows.{rows_that_pass, places_within, all_rows}
use Rattle.join_pairs.proofs.filter.filter_rows.Goals as goal

abbrev table : List Field → List Row → Table
table schema rows = record { schema = schema; rows = rows }

pub take-requires : goal.take-requires
take-requires c =
    let q = c.args.query.now in
    let f = c.in-Some.filter in
    let rows = c.args.rows.now.rows in
    let passes = λ (row : Row). holds f.op (ref_value q f.left row) (operand_value q f.right row) in
    record { in_bounds = subst (All (λ i. i < length rows)) (sym (c.deref.ensures.value ∙ c.in_ok-places-in-Some.ensures)) (places_within passes rows c.in_ok-mask-in-Some.mask c.in_ok-mask-in-Some.ensures) }

pub returns-in_ok-places-in-Some : goal.returns-in_ok-places-in-Some
returns-in_ok-places-in-Some c =
    let q = c.args.query.now in
    let f = c.in-Some.filter in
    let rows = c.args.rows.now.rows in
    let passes = λ (row : Row). holds f.op (ref_value q f.left row) (operand_value q f.right row) in
    rw c.in-Some.is (IfOk-weaker c.take.result _ _ (λ t h. h
    ∙ ap₂ table c.requires.joined (ap (rows_at rows) (c.deref.ensures.value ∙ c.in_ok-places-in-Some.ensures) ∙ rows_that_pass passes rows c.in_ok-mask-in-Some.mask c.in_ok-mask-in-Some.ensures)) c.take.ensures)

pub returns-in-None : goal.returns-in-None
returns-in-None c =
    rw c.in-None.is (IfOk-weaker c.slice.result _ _ (λ t h. h ∙ ap₂ table c.requires.joined (all_rows c.args.rows.now.rows c.height.result c.height.ensures.height)) c.slice.ensures)
