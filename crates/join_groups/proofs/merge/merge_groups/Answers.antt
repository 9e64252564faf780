use Rattle.any_reduce.specs.Kinds.{any_holds}
use Rattle.join_groups.specs.Keyed.{grouping_of_query}
use Rattle.join_groups.proofs.GroupTable.{merged_high, merged_types}
use Rattle.join_groups.proofs.merge.merge_groups.Goals as goal

pub group_rows-requires-clause-schema : goal.group_rows-requires-clause-schema
group_rows-requires-clause-schema g c = (c.in_ok-groups.ensures.groups (grouping_of_query c.args.query.now) c.requires.fit).schema_is

pub group_rows-requires-clause-order : goal.group_rows-requires-clause-order
group_rows-requires-clause-order g c = (c.in_ok-groups.ensures.groups (grouping_of_query c.args.query.now) c.requires.fit).inside

pub group_rows-requires-clause-types : goal.group_rows-requires-clause-types
group_rows-requires-clause-types g c = merged_types any_holds c.args.query.now c.args.locals.items c.in_ok-groups.field-0.groups (c.in_ok-groups.ensures.groups (grouping_of_query c.args.query.now) c.requires.fit)

pub group_rows-requires-clause-heights : goal.group_rows-requires-clause-heights
group_rows-requires-clause-heights g c = merged_high any_holds c.args.query.now c.args.locals.items c.in_ok-groups.field-0.groups (c.in_ok-groups.ensures.groups (grouping_of_query c.args.query.now) c.requires.fit)

pub returns-clause-groups : goal.returns-clause-groups
returns-clause-groups g c = record { groups = c.in_ok-groups.field-0.groups; merged = c.in_ok-groups.ensures.groups (grouping_of_query c.args.query.now) c.requires.fit; rows = c.in_ok-groups-2.ensures }
