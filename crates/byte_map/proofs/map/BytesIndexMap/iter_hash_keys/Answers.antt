use Rattle.std.proofs.Common.{◌∙◌, ap, map}
use Rattle.byte_map.specs.Entries.{hash_keys_of}
use Rattle.byte_map.proofs.Seen.{hash_keys_seen}
use Rattle.byte_map.proofs.map.BytesIndexMap.iter_hash_keys.Goals as goal

pub returns : goal.returns
returns g c = c.new.ensures ∙ ap (map (λ e. (e.1.hash, e.0.items))) c.iter.ensures.rest ∙ hash_keys_seen c.self.inside.kept.entries ∙ ap (λ m. hash_keys_of m.entries) c.self.view_is
