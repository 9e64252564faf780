use Rattle.std.proofs.Common.{◌∙◌, sym, ap, slice_get, option_map}
use Rattle.byte_map.specs.Entries.{values_of}
use Rattle.byte_map.proofs.Seen.{value_seen}
use Rattle.byte_map.proofs.map.BytesIndexMap.value_at.Goals as goal

pub returns : goal.returns
returns g c = sym (ap (λ m. slice_get (values_of m.entries) c.args.i) c.self.view_is) ∙ value_seen c.self.inside.kept.entries c.args.i ∙ ap (option_map (λ k. k.value)) c.index.ensures
