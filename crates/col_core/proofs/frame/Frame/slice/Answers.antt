use Rattle.std.proofs.Common.{◌≡◌, [], length, ap, ◌∙◌, sym, subst, map, List, ℕ}
use Rattle.std.specs.List.{range_with_len}
use Rattle.std.proofs.lemmas.List.{take_all}
use Rattle.std.proofs.lemmas.List.FromFn.{length-range_with_len}
use Rattle.col_core.specs.declared.schema.Field.{Field}
use Rattle.col_core.specs.Tables.{Table, Row, Column, taken, rows_from, values_of, AreColumnsOf}
use Rattle.col_core.proofs.Rows.{under_taken, columns_taken, range_within, in_range}
use Rattle.col_core.proofs.frame.Frame.slice.Goals as goal

pub from_columns-requires : goal.from_columns-requires
from_columns-requires c =
    let columns = c.columns-column-items.result.now in
    let places = range_with_len c.args.start c.args.len in
    let under = under_taken c.args.self.now.schema columns (length c.args.self.now.rows) places c.columns-column-items.ensures.under (range_within c.args.start c.args.len (length c.args.self.now.rows) c.requires.in_bounds) in
    let same : c.in_ok-try_clone.field-0 ≡ c.args.self.now.schema = c.in_ok-try_clone.ensures ∙ ap (λ (t : Table). t.schema) c.self.view_is in
    let whole : c.loop-column.columns.items ≡ map (taken places) columns = c.loop-column.invariant ∙ ap (map (taken places)) (take_all c.loop-column.column-index columns c.loop-column-test.false) in
    rw (same, whole) (subst (AreColumnsOf c.args.self.now.schema (map (taken places) columns)) (length-range_with_len c.args.start c.args.len) under)

pub returns : goal.returns
returns c =
    let columns = c.columns-column-items.result.now in
    let places = range_with_len c.args.start c.args.len in
    let rows = c.args.self.now.rows in
    let same : c.in_ok-try_clone.field-0 ≡ c.args.self.now.schema = c.in_ok-try_clone.ensures ∙ ap (λ (t : Table). t.schema) c.self.view_is in
    let whole : c.loop-column.columns.items ≡ map (taken places) columns = c.loop-column.invariant ∙ ap (map (taken places)) (take_all c.loop-column.column-index columns c.loop-column-test.false) in
    c.from_columns.ensures
    ∙ ap (λ (s : List Field). record { schema = s; rows = rows_from c.args.len (values_of c.loop-column.columns.items) }) same
    ∙ ap (λ (xs : List Row). record { schema = c.args.self.now.schema; rows = xs }) (
    ap (λ (n : ℕ). rows_from n (values_of c.loop-column.columns.items)) (sym (length-range_with_len c.args.start c.args.len))
    ∙ ap (λ (cs : List Column). rows_from (length places) (values_of cs)) whole
    ∙ columns_taken columns (length rows) rows places c.columns-column-items.ensures.rows (range_within c.args.start c.args.len (length rows) c.requires.in_bounds)
    ∙ in_range rows [] c.args.start c.args.len c.requires.in_bounds)
