use Rattle.std.proofs.Common.{◌≡◌, ◌∙◌, List, ap, sym, bytes_eq}
use Rattle.std.specs.List.{position}
use Rattle.key_parts.specs.Hashes.{hash_of}
use Rattle.chunked_idx_table.specs.Tables.{KeyEntry, ProbeTable}
use Rattle.chunked_idx_table.specs.Probes.{key_index}
use Rattle.chunked_idx_table.proofs.Marks.{keys_seen, comes_kept, none_found}
use Rattle.chunked_idx_table.proofs.row_encoded.RowEncodedChunkedIdxTable.find.Goals as goal

pub index_of-requires : goal.index_of-requires
index_of-requires g c =
    comes_kept c.self.inside.random_state c.self.inside.known.entries c.args.hash c.args.key.now c.self.invariant.keys
    (c.requires ∙ ap (λ (t : ProbeTable). hash_of t.state c.args.key.now) (sym c.self.view_is))

pub returns-clause-at : goal.returns-clause-at
returns-clause-at g c = c.index_of.ensures.place ∙ ap (position (bytes_eq c.args.key.now)) (sym (keys_seen c.self.inside.known.entries)) ∙ ap (key_index c.args.key.now) c.self.view_is

pub returns-clause-absent : goal.returns-clause-absent
returns-clause-absent g c = λ none. (none_found c.args.self.now.entries c.args.key.now (sym (returns-clause-at g c) ∙ none)).0

pub returns-clause-unmarked : goal.returns-clause-unmarked
returns-clause-unmarked g c = λ none. ap (λ (es : List KeyEntry). record c.args.self.now { entries = es }) (none_found c.args.self.now.entries c.args.key.now (sym (returns-clause-at g c) ∙ none)).1
