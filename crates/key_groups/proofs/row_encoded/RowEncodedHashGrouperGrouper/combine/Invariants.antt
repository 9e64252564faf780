use Rattle.std.proofs.Common.{◌≡◌, ◌+◌, take, bytes_eq}
use Rattle.key_groups.specs.Taken.{TookKeys}
use Rattle.key_groups.proofs.row_encoded.RowEncodedHashGrouperGrouper.combine.Given as goal

abbrev pub invariant-loop-i : goal.invariant-loop-i
invariant-loop-i g l = record {
  took : TookKeys bytes_eq (take l.i l.other.keys) l.fn.self.keys l.self.keys l.group_idxs.items;
  schema : l.self.schema ≡ l.fn.self.schema;
  state : l.self.state ≡ l.fn.self.state;
  cost : l.steps ≡ l.fn.steps + l.i;
}
