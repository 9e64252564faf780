use Rattle.std.proofs.Common.{◌≡◌, ◌++◌, map, take}
use Rattle.key_parts.specs.Positions.{position}
use Rattle.join_laws.specs.Partitions.{reply_pairs}
use Rattle.join_tables.proofs.reply.take_reply.Given as goal

abbrev pub invariant-loop-i : goal.invariant-loop-i
invariant-loop-i l = l.pairs.items ≡ l.initial.pairs.items ++ reply_pairs l.places l.partition (take l.i (map position l.reply.positions.items)) (take l.i l.reply.rows.items)
