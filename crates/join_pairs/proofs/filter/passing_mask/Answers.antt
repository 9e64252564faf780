use Rattle.std.proofs.Common.{◌≡◌, ◌∙◌, List, map, ap, ap₂}
use Rattle.std.specs.Simd.Lanes.{zip2}
use Rattle.std.proofs.lemmas.Result.{IfOk-weaker}
use mathlib.Core.List.{map-map}
use Rattle.col_core.specs.declared.leaf.Leaf.{Leaf}
use Rattle.col_core.specs.declared.leaf.Leaf.TheVariants.{Whole}
use Rattle.join_model.specs.ColumnRefs.{ref_value}
use Rattle.join_model.specs.Filtered.{holds, literal}
use Rattle.join_pairs.proofs.Rows.{pairs_over}
use Rattle.join_pairs.proofs.filter.passing_mask.Goals as goal

pub returns-in-Column : goal.returns-in-Column
returns-in-Column c =
    let q = c.args.query.now in
    let f = c.args.filter.now in
    rw c.in-Column.is (IfOk-weaker c.compare_columns.result _ _ (λ bits h. h
    ∙ ap₂ (zip2 (holds f.op)) c.joined_column-left.ensures.values c.joined_column.ensures.values
    ∙ pairs_over (holds f.op) (ref_value q f.left) (ref_value q c.in-Column.right) c.args.rows.now.rows) c.compare_columns.ensures)

pub returns-in-Literal : goal.returns-in-Literal
returns-in-Literal c =
    let q = c.args.query.now in
    let f = c.args.filter.now in
    let test = λ (v : Leaf). holds f.op v (Whole (literal c.in-Literal.number)) in
    rw c.in-Literal.is (IfOk-weaker c.compare_column_with.result _ _ (λ bits h. h
    ∙ ap (map test) c.joined_column-left.ensures.values
    ∙ map-map test (ref_value q f.left) c.args.rows.now.rows) c.compare_column_with.ensures)
