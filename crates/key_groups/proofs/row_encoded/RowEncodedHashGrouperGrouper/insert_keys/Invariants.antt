use Rattle.std.proofs.Common.{◌≡◌, ◌+◌, take, bytes_eq}
use Rattle.hash_keys.specs.Views.{keys_of}
use Rattle.key_groups.specs.Groups.{bytes_of}
use Rattle.key_groups.specs.Taken.{TookKeys}
use Rattle.key_groups.proofs.row_encoded.RowEncodedHashGrouperGrouper.insert_keys.Given as goal

abbrev pub invariant-loop-i : goal.invariant-loop-i
invariant-loop-i g l = record {
  took : TookKeys bytes_eq (take l.i (bytes_of (keys_of l.keys))) l.fn.self.keys l.self.keys l.group_idxs.items;
  schema : l.self.schema ≡ l.fn.self.schema;
  state : l.self.state ≡ l.fn.self.state;
  cost : l.steps ≡ l.fn.steps + l.i;
}
