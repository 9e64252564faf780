use Rattle.std.proofs.Common.{sym, subst}
use Rattle.byte_map_tests.specs.Hashed.{HaveHash}
use Rattle.byte_map_tests.proofs.Pushed.{hash_pushed}
use Rattle.byte_map_tests.proofs.tests.push.Goals as goal

pub returns-in-Ok-New-clause-hash : goal.returns-in-Ok-New-clause-hash
returns-in-Ok-New-clause-hash g c =
    let f = rw c.in-Ok-New.field-0-is at c.in-Ok-New.ensures.ok in
    subst HaveHash (sym f.2) (hash_pushed c.args.map.now.entries c.args.key.now c.args.value c.requires.hash)
