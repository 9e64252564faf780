use Rattle.std.proofs.Common.{◌∙◌, ap, map, Some}
use Rattle.key_parts.specs.Positions.{position}
use Rattle.chunked_idx_table.specs.Tables.{ProbeTable}
use Rattle.chunked_idx_table.proofs.Marks.{nulls_seen}
use Rattle.chunked_idx_table.proofs.row_encoded.RowEncodedChunkedIdxTableChunkedIdxTable.null_rows.Goals as goal

pub returns : goal.returns
returns c =
    ap (map position) c.deref.ensures.value
    ∙ nulls_seen c.self.inside.nulls.items c.self.invariant.positions
    ∙ ap (λ (t : ProbeTable). map (λ x. Some x) t.nulls) c.self.view_is
