use Rattle.std.proofs.Common.{ap, subst, ◌∙◌}
use Rattle.key_parts.specs.Hashes.{hash_of}
use Rattle.row_code.specs.Spelling.{IsSpelling}
use Rattle.key_groups.specs.Groups.{KeyGroups}
use Rattle.key_groups.proofs.Kept.{hash_found, spelled_at}
use Rattle.key_groups.proofs.row_encoded.RowEncodedHashGrouper.hashed_key.Goals as goal

pub returns-clause-hash : goal.returns-clause-hash
returns-clause-hash c =
    hash_found c.self.inside.random_state c.self.inside.known.entries c.args.i c.key_at.result.0 c.key_at.result.1.now c.self.invariant.hashed c.key_at.ensures.hash c.key_at.ensures.key
    ∙ ap (λ (t : KeyGroups). hash_of t.state c.key_at.result.1.now) c.self.view_is

pub returns-clause-spelled : goal.returns-clause-spelled
returns-clause-spelled c =
    subst (λ (t : KeyGroups). IsSpelling t.schema c.key_at.result.1.now) c.self.view_is
    (spelled_at c.self.inside.key_schema c.self.inside.known.entries c.args.i c.key_at.result.1.now c.self.invariant.spelled c.key_at.ensures.key)
