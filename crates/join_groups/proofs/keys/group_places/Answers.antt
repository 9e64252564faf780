use Rattle.join_groups.specs.Keyed.{IsKnown}
use Rattle.join_groups.proofs.Known.{at_item, groups_known}
use Rattle.join_groups.proofs.keys.group_places.Goals as goal

pub joined_place-requires-clause-known : goal.joined_place-requires-clause-known
joined_place-requires-clause-known c = at_item (IsKnown c.args.query.now) c.args.query.now.group_keys c.as_slice-column-items.result.now c.loop-column.column-index c.column-item.result (groups_known c.args.query.now c.requires.known) c.as_slice-column-items.ensures c.loop-column-test.true c.column-item.is
