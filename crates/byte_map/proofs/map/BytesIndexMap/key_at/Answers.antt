use Rattle.std.proofs.Common.{◌∙◌, ap, sym, slice_get, option_map, Some}
use Rattle.byte_map.specs.Entries.{hashes_of, keys_of}
use Rattle.byte_map.proofs.Seen.{seen, field_seen}
use Rattle.byte_map.proofs.map.BytesIndexMap.key_at.Goals as goal

pub returns-clause-hash : goal.returns-clause-hash
returns-clause-hash g c =
    sym (ap (λ m. slice_get (hashes_of m.entries) c.args.i) c.self.view_is) ∙ field_seen (λ e. e.hash) c.self.inside.kept.entries c.args.i ∙ ap (option_map (λ e. (seen e).hash)) (sym c.in-Some.ensures.entry)

pub returns-clause-key : goal.returns-clause-key
returns-clause-key g c =
    sym (ap (λ m. slice_get (keys_of m.entries) c.args.i) c.self.view_is) ∙ field_seen (λ e. e.key) c.self.inside.kept.entries c.args.i ∙ ap (option_map (λ e. (seen e).key)) (sym c.in-Some.ensures.entry) ∙ ap Some (sym c.as_slice.ensures.value)
