use Rattle.std.proofs.Common.{◌∙◌, ap, sym, slice_get}
use Rattle.chunked_idx_table.specs.Tables.{ProbeTable, table_keys}
use Rattle.chunked_idx_table.proofs.Marks.{keys_seen}
use Rattle.chunked_idx_table.proofs.row_encoded.RowEncodedChunkedIdxTableChunkedIdxTable.key.Goals as goal

pub returns : goal.returns
returns c =
    sym (ap (λ (t : ProbeTable). slice_get (table_keys t) c.args.i) c.self.view_is)
    ∙ ap (λ ks. slice_get ks c.args.i) (keys_seen c.self.inside.known.entries)
    ∙ c.key_at.ensures.key
