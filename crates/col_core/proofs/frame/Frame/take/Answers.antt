use Rattle.std.proofs.Common.{◌≡◌, length, ap, ◌∙◌, map, List}
use Rattle.std.proofs.lemmas.List.{take_all}
use Rattle.col_core.specs.declared.schema.Field.{Field}
use Rattle.col_core.specs.Tables.{Table, Row, Column, taken, rows_from, values_of}
use Rattle.col_core.proofs.Rows.{under_taken, columns_taken}
use Rattle.col_core.proofs.frame.Frame.take.Goals as goal

-- the schema of the clone, and all columns taken
pub from_columns-requires : goal.from_columns-requires
from_columns-requires c =
    let under = under_taken c.args.self.now.schema c.columns-column-items.result.now (length c.args.self.now.rows) c.args.idxs.now c.columns-column-items.ensures.under c.requires.in_bounds in
    let same : c.in_ok-try_clone.field-0 ≡ c.args.self.now.schema = c.in_ok-try_clone.ensures ∙ ap (λ (t : Table). t.schema) c.self.view_is in
    let whole : c.loop-column.columns.items ≡ map (taken c.args.idxs.now) c.columns-column-items.result.now = c.loop-column.invariant ∙ ap (map (taken c.args.idxs.now)) (take_all c.loop-column.column-index c.columns-column-items.result.now c.loop-column-test.false) in
    rw (same, whole) under

pub returns : goal.returns
returns c =
    let columns = c.columns-column-items.result.now in
    let places = c.args.idxs.now in
    let rows = c.args.self.now.rows in
    let same : c.in_ok-try_clone.field-0 ≡ c.args.self.now.schema = c.in_ok-try_clone.ensures ∙ ap (λ (t : Table). t.schema) c.self.view_is in
    let whole : c.loop-column.columns.items ≡ map (taken places) columns = c.loop-column.invariant ∙ ap (map (taken places)) (take_all c.loop-column.column-index columns c.loop-column-test.false) in
    c.from_columns.ensures
    ∙ ap (λ (s : List Field). record { schema = s; rows = rows_from (length places) (values_of c.loop-column.columns.items) }) same
    ∙ ap (λ (xs : List Row). record { schema = c.args.self.now.schema; rows = xs }) (
    ap (λ (cs : List Column). rows_from (length places) (values_of cs)) whole
    ∙ columns_taken columns (length rows) rows places c.columns-column-items.ensures.rows c.requires.in_bounds)
