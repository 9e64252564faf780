use Rattle.std.proofs.Common.{◌∙◌, ap}
use Rattle.byte_map.specs.Entries.{place}
use Rattle.byte_map.proofs.Seen.{place_is}
use Rattle.byte_map.proofs.map.BytesIndexMap.index_of.Goals as goal

pub returns-in-Some-clause-place : goal.returns-in-Some-clause-place
returns-in-Some-clause-place g c = c.in-Some.ensures.index ∙ place_is c.args.key.now c.self.inside.kept.entries ∙ ap (λ m. place c.args.key.now m.entries) c.self.view_is

pub returns-in-None-clause-place : goal.returns-in-None-clause-place
returns-in-None-clause-place g c = c.in-None.ensures.index ∙ place_is c.args.key.now c.self.inside.kept.entries ∙ ap (λ m. place c.args.key.now m.entries) c.self.view_is
