use Rattle.join_probes.proofs.Calls.{outer_given, outer_placed, some_stand_few}
use Rattle.join_probes.proofs.outer.unmatched_rows.Goals as goal

pub unmatched_rows-requires-clause-stands : goal.unmatched_rows-requires-clause-stands
unmatched_rows-requires-clause-stands c = some_stand_few c.args.query.now c.table_plan.result c.args.built.now c.table_plan.ensures c.requires.built

pub returns-clause-rows : goal.returns-clause-rows
returns-clause-rows c = outer_given c.args.query.now c.table_plan.result c.table_plan.ensures c.args.built.now c.unmatched_rows.result c.unmatched_rows.ensures

pub returns-clause-inside : goal.returns-clause-inside
returns-clause-inside c = outer_placed c.args.query.now c.table_plan.result c.table_plan.ensures c.args.built.now c.unmatched_rows.result c.unmatched_rows.ensures
