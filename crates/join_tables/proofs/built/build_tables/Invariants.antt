use Rattle.std.proofs.Common.{◌≡◌, ◌+◌, ◌≤◌, length, map, take}
use Rattle.std.specs.List.{flat_map}
use Rattle.hash_keys.specs.Views.{keys_of}
use Rattle.join_laws.specs.Partitions.{Stands, unmarked}
use Rattle.join_tables.specs.Tables.{part_of}
use Rattle.join_tables.proofs.built.build_tables.Given as goal

abbrev pub invariant-loop-keys : goal.invariant-loop-keys
invariant-loop-keys g l = record {
  stands : Stands (part_of l.plan) l.plan.state l.plan.partitioner.partitions (take l.keys-index (map keys_of l.frames)) unmarked l.tables l.places;
  lists_are : length l.lists.items ≡ l.plan.partitioner.partitions;
  cost : l.steps ≤ l.initial.steps + length (flat_map keys_of (take l.keys-index l.frames));
}
