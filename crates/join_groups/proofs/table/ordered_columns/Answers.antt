use Rattle.std.proofs.Common.{◌∙◌, map, ap}
use Rattle.std.proofs.lemmas.List.{take_all}
use Rattle.col_core.specs.Tables.{taken}
use Rattle.join_groups.proofs.GroupTable.{taken_headers, taken_high, taken_rows}
use Rattle.join_groups.proofs.table.ordered_columns.Goals as goal

pub returns-clause-headers : goal.returns-clause-headers
returns-clause-headers c = taken_headers c.args.rows.now.schema c.columns-column-items.result.now c.args.rows.now.rows c.args.order.now c.columns-column-items.ensures.under c.columns-column-items.ensures.rows c.requires c.loop-column.columns.items
    (c.loop-column.invariant ∙ ap (map (taken c.args.order.now)) (take_all c.loop-column.column-index c.columns-column-items.result.now c.loop-column-test.false))

pub returns-clause-lengths : goal.returns-clause-lengths
returns-clause-lengths c = taken_high c.args.rows.now.schema c.columns-column-items.result.now c.args.rows.now.rows c.args.order.now c.columns-column-items.ensures.under c.columns-column-items.ensures.rows c.requires c.loop-column.columns.items
    (c.loop-column.invariant ∙ ap (map (taken c.args.order.now)) (take_all c.loop-column.column-index c.columns-column-items.result.now c.loop-column-test.false))

pub returns-clause-rows : goal.returns-clause-rows
returns-clause-rows c = taken_rows c.args.rows.now.schema c.columns-column-items.result.now c.args.rows.now.rows c.args.order.now c.columns-column-items.ensures.under c.columns-column-items.ensures.rows c.requires c.loop-column.columns.items
    (c.loop-column.invariant ∙ ap (map (taken c.args.order.now)) (take_all c.loop-column.column-index c.columns-column-items.result.now c.loop-column-test.false))
