use Rattle.std.proofs.Common.{◌∙◌, ap, sym, map, slice_get, Some}
use Rattle.chunked_idx_table.specs.Tables.{ProbeTable}
use Rattle.chunked_idx_table.specs.Words.{position_kept}
use Rattle.chunked_idx_table.proofs.Marks.{positions_at}
use Rattle.chunked_idx_table.proofs.row_encoded.RowEncodedChunkedIdxTableChunkedIdxTable.positions.Goals as goal

pub returns : goal.returns
returns c =
    sym (ap (λ (t : ProbeTable). slice_get (map (λ e. e.positions) t.entries) c.args.i) c.self.view_is)
    ∙ positions_at c.self.inside.known.entries c.args.i c.value_at.result.now c.value_at.ensures
    ∙ ap (λ ws. Some (map position_kept ws)) (sym c.as_slice.ensures)
