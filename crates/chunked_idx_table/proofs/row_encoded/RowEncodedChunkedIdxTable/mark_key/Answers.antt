use Rattle.std.proofs.Common.{◌≡◌, ◌∙◌, ap, ap₂, List, map, length, arith}
use Rattle.chunked_idx_table.specs.Tables.{KeyEntry, ProbeTable}
use Rattle.chunked_idx_table.specs.Probes.{key_index, mark_entry}
use Rattle.chunked_idx_table.specs.Words.{AreKept}
use Rattle.chunked_idx_table.proofs.Marks.{only, place_of, mark_written, kept_written, length-with_value, some_at}
use Rattle.chunked_idx_table.proofs.row_encoded.RowEncodedChunkedIdxTable.mark_key.Goals as goal

pub mark-requires : goal.mark-requires
mark-requires c = some_at c.self.inside.random_state c.self.inside.known.entries c.args.at c.value_at_mut.result.now c.self.invariant.keys c.value_at_mut.ensures.value

pub invariant_of-self : goal.invariant_of-self
invariant_of-self c = record {
  keys = kept_written c.self.inside.random_state c.self.inside.known.entries c.args.at c.mark.new.words c.self.invariant.keys c.mark.ensures.some;
  positions = c.self.invariant.positions;
  few = omega (arith, c.self.invariant.few, length-with_value c.self.inside.known.entries c.args.at c.mark.new.words);
}

pub returns : goal.returns
returns c =
    let es = c.self.inside.known.entries in
    let place = place_of es c.args.at c.args.key.now (ap (key_index c.args.key.now) c.self.view_is ∙ c.requires) in
    let made = mark_written es c.args.at c.value_at_mut.result.now c.mark.new.words c.args.key.now c.len-count.ensures.distinct place c.value_at_mut.ensures.value c.mark.ensures.same c.mark.ensures.marked in
    ap₂ (λ (entries : List KeyEntry) (t : ProbeTable). record { entries = entries; nulls = t.nulls; chunks = t.chunks; state = t.state }) made c.self.view_is
    ∙ ap (λ (t : ProbeTable). record c.args.self.now { entries = map (mark_entry (only c.args.key.now)) t.entries }) c.self.view_is
