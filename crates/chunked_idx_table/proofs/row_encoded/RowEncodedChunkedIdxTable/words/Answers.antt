use Rattle.std.proofs.Common.{◌≡◌, ◌∙◌, ap, sym, map, Some, length, arith}
use Rattle.std.proofs.lemmas.List.{length-map}
use Rattle.chunked_idx_table.specs.Tables.{ProbeTable}
use Rattle.chunked_idx_table.specs.Probes.{key_index, matches}
use Rattle.chunked_idx_table.specs.Words.{key_entry, position_kept}
use Rattle.chunked_idx_table.proofs.Marks.{matches_at, some_at}
use Rattle.chunked_idx_table.proofs.row_encoded.RowEncodedChunkedIdxTable.words.Goals as goal

pub value_at-requires : goal.value_at-requires
value_at-requires c = omega (arith, ap (λ (t : ProbeTable). length t.entries) c.self.view_is, length-map c.self.inside.known.entries key_entry)

pub returns : goal.returns
returns c = λ key emit at.
    let es = c.self.inside.known.entries in
    let some = some_at c.self.inside.random_state es c.args.at c.value_at.result.now c.self.invariant.keys c.value_at.ensures in
    sym (ap (λ (t : ProbeTable). matches t.entries emit (Some key)) c.self.view_is)
    ∙ matches_at es c.args.at c.value_at.result.now key emit some (ap (key_index key) c.self.view_is ∙ at) c.value_at.ensures
    ∙ ap (map (λ word. Some (position_kept word))) (sym c.as_slice.ensures)
