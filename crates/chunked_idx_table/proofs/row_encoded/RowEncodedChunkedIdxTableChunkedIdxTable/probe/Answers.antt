use Rattle.hash_keys.specs.Views.{keys_of}
use Rattle.chunked_idx_table.proofs.Marks.{all_inside}
use Rattle.chunked_idx_table.proofs.row_encoded.RowEncodedChunkedIdxTableChunkedIdxTable.probe.Goals as goal

pub probe_asked-requires-clause-inside : goal.probe_asked-requires-clause-inside
probe_asked-requires-clause-inside g c = all_inside (keys_of c.args.hash_keys.now)
