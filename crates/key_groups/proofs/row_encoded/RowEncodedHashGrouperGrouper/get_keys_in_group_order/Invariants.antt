use Rattle.std.proofs.Common.{◌≡◌, take}
use Rattle.key_groups.proofs.row_encoded.RowEncodedHashGrouperGrouper.get_keys_in_group_order.Given as goal

abbrev pub invariant-loop-i : goal.invariant-loop-i
invariant-loop-i l = record {
  schema : l.rows.schema ≡ l.self.schema;
  rows : l.rows.rows ≡ take l.i l.self.keys;
}
