use Rattle.std.proofs.Common.{◌≡◌, ◌∙◌, ap, ap₂, List, map, length, arith}
use Rattle.std.proofs.lemmas.Result.{err_from_is_err_and}
use Rattle.byte_map.specs.Lending.{with_value}
use Rattle.chunked_idx_table.specs.Tables.{KeyEntry, ProbeTable}
use Rattle.chunked_idx_table.specs.Inserts.{with_position}
use Rattle.chunked_idx_table.specs.Probes.{key_index}
use Rattle.chunked_idx_table.specs.Words.{key_entry, position_kept}
use Rattle.chunked_idx_table.proofs.Marks.{place_of, kept_written, length-with_value, same_written, some_at}
use Rattle.chunked_idx_table.proofs.Rows.{word_written}
use Rattle.chunked_idx_table.proofs.row_encoded.RowEncodedChunkedIdxTable.add_at.Goals as goal

pub push_word-requires : goal.push_word-requires
push_word-requires c = some_at c.self.inside.random_state c.self.inside.known.entries c.args.at c.value_at_mut.result.now c.self.invariant.keys c.value_at_mut.ensures.value

pub invariant_of-self : goal.invariant_of-self
invariant_of-self c = record {
  keys = kept_written c.self.inside.random_state c.self.inside.known.entries c.args.at c.push_word.new.words c.self.invariant.keys c.push_word.ensures.some;
  positions = c.self.invariant.positions;
  few = omega (arith, c.self.invariant.few, length-with_value c.self.inside.known.entries c.args.at c.push_word.new.words);
}

pub invariant_of-self-2 : goal.invariant_of-self-2
invariant_of-self-2 c = record {
  keys = kept_written c.self.inside.random_state c.self.inside.known.entries c.args.at c.push_word.new.words c.self.invariant.keys c.push_word.ensures.some;
  positions = c.self.invariant.positions;
  few = omega (arith, c.self.invariant.few, length-with_value c.self.inside.known.entries c.args.at c.push_word.new.words);
}

pub returns-clause-ok : goal.returns-clause-ok
returns-clause-ok c =
    let es = c.self.inside.known.entries in
    let place = place_of es c.args.at c.args.key.now (ap (key_index c.args.key.now) c.self.view_is ∙ c.requires) in
    let made = word_written es c.args.at c.value_at_mut.result.now c.push_word.new.words c.args.key.now (position_kept c.args.word) place c.value_at_mut.ensures.value c.in_ok-push_word.ensures.added c.in_ok-push_word.ensures.mark in
    ap₂ (λ (entries : List KeyEntry) (t : ProbeTable). record { entries = entries; nulls = t.nulls; chunks = t.chunks; state = t.state }) made c.self.view_is
    ∙ ap (λ (t : ProbeTable). record c.args.self.now { entries = with_position t.entries c.args.key.now (position_kept c.args.word) }) c.self.view_is

pub returns-in_err-push_word-clause-err : goal.returns-in_err-push_word-clause-err
returns-in_err-push_word-clause-err c =
    let p = err_from_is_err_and c.from_residual.result c.from_residual.ensures.1 in
    let es = c.self.inside.known.entries in
    let same = ap (with_value es c.args.at) c.in_err-push_word.ensures.err ∙ same_written es c.args.at c.value_at_mut.result.now c.value_at_mut.ensures.value in
    rw p.1 (ap₂ (λ (entries : List KeyEntry) (t : ProbeTable). record { entries = entries; nulls = t.nulls; chunks = t.chunks; state = t.state }) (ap (map key_entry) same ∙ ap (λ (t : ProbeTable). t.entries) c.self.view_is) c.self.view_is)
