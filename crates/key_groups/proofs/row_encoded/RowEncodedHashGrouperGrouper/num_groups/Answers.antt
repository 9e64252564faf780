use Rattle.std.proofs.Common.{subst}
use Rattle.std.specs.List.{All}
use Rattle.std.proofs.lemmas.List.Elements.{All-map}
use Rattle.byte_map.specs.Entries.{Entry}
use Rattle.row_code.specs.Spelling.{IsSpelling}
use Rattle.key_groups.specs.Groups.{KeyGroups}
use Rattle.key_groups.proofs.row_encoded.RowEncodedHashGrouperGrouper.num_groups.Goals as goal

pub returns-clause-spelled : goal.returns-clause-spelled
returns-clause-spelled c =
    subst (λ (t : KeyGroups). All (IsSpelling t.schema) t.keys) c.self.view_is
    (All-map (IsSpelling c.self.inside.key_schema) (λ (e : Entry (Unit {0})). e.key) c.self.inside.known.entries c.self.invariant.spelled)
