use Rattle.std.proofs.Common.{subst}
use Rattle.byte_map.specs.Entries.{Map, AreDistinct}
use Rattle.byte_map.proofs.Seen.{distinct_seen}
use Rattle.byte_map.proofs.map.BytesIndexMap.len.Goals as goal

pub returns-clause-distinct : goal.returns-clause-distinct
returns-clause-distinct g c = subst (λ m. AreDistinct m.entries) c.self.view_is (distinct_seen c.self.inside.kept.entries c.len.ensures.unique)
