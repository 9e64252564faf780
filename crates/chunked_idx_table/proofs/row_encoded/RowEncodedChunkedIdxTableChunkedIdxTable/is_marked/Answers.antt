use Rattle.std.proofs.Common.{◌∙◌, ap, sym, map, slice_get, Some}
use Rattle.chunked_idx_table.specs.Tables.{ProbeTable}
use Rattle.chunked_idx_table.specs.Words.{has_mark}
use Rattle.chunked_idx_table.proofs.Marks.{some_at, marked_at}
use Rattle.chunked_idx_table.proofs.row_encoded.RowEncodedChunkedIdxTableChunkedIdxTable.is_marked.Goals as goal

pub is_marked-requires : goal.is_marked-requires
is_marked-requires c = rw c.as_slice.ensures (some_at c.self.inside.random_state c.self.inside.known.entries c.args.i c.value_at.result.now c.self.invariant.keys c.value_at.ensures)

pub returns : goal.returns
returns c =
    sym (ap (λ (t : ProbeTable). slice_get (map (λ e. e.marked) t.entries) c.args.i) c.self.view_is)
    ∙ marked_at c.self.inside.known.entries c.args.i c.value_at.result.now c.value_at.ensures
    ∙ ap Some (ap has_mark (sym c.as_slice.ensures) ∙ sym c.is_marked.ensures)
