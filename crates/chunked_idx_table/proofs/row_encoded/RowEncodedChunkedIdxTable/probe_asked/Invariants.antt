use Rattle.std.proofs.Common.{◌≡◌, ◌+◌, ◌<◌, length, map, take, option_copied}
use Rattle.key_parts.specs.Positions.{position}
use Rattle.hash_keys.specs.Views.{keys_of}
use Rattle.chunked_idx_table.specs.Inserts.{searches}
use Rattle.chunked_idx_table.specs.Probes.{asked_rows, keys_at, Answered}
use Rattle.chunked_idx_table.proofs.row_encoded.RowEncodedChunkedIdxTable.probe_asked.Given as goal

abbrev pub invariant-loop-i : goal.invariant-loop-i
invariant-loop-i g l = record {
  answered : Answered l.mark_matches l.emit_unmatched l.fn.self (keys_of l.hash_keys) (take l.i (asked_rows (keys_of l.hash_keys) (option_copied l.subset))) l.self (map position l.table_match.items) l.probe_match.items;
  few : 0 < l.i → length l.table_match.items < l.limit;
  cost : l.steps ≡ l.initial.steps + searches (keys_at (keys_of l.hash_keys) (take l.i (asked_rows (keys_of l.hash_keys) (option_copied l.subset))));
}
