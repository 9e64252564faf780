use Rattle.std.proofs.Common.{◌≡◌, ◌+◌, take}
use Rattle.hash_keys.specs.Views.{keys_of}
use Rattle.chunked_idx_table.specs.Inserts.{chunk_rows, with_rows, searches}
use Rattle.chunked_idx_table.proofs.row_encoded.RowEncodedChunkedIdxTableChunkedIdxTable.insert_key_chunk.Given as goal

abbrev pub invariant-loop-row : goal.invariant-loop-row
invariant-loop-row g l = record {
  so_far : l.self ≡ with_rows l.track_unmatchable l.fn.self (take l.row (chunk_rows l.fn.self.chunks (keys_of l.keys)));
  cost : l.steps ≡ l.initial.steps + searches (take l.row (keys_of l.keys));
}
