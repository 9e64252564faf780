use Rattle.hash_keys.proofs.Hashed.{hash_found}
use Rattle.hash_keys.proofs.row_encoded.RowEncodedKeys.hash.Goals as goal

pub returns : goal.returns
returns c =
    hash_found c.args.self.now c.self.inside.state c.self.inside.hashes.items c.self.inside.keys c.args.i c.index.result.now
    c.self.view_is c.self.invariant c.requires c.index.ensures
