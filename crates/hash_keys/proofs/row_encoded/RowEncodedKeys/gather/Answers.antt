use Rattle.std.proofs.Common.{ℕ, map, get_or, ap, ◌∙◌, arith}
use Rattle.std.proofs.lemmas.List.{take_all}
use Rattle.hash_keys.proofs.Gathered.{gathered_hashed, gathered_keys}
use Rattle.hash_keys.proofs.row_encoded.RowEncodedKeys.gather.Goals as goal

pub invariant_of-result : goal.invariant_of-result
invariant_of-result c =
    gathered_hashed c.self.inside.state c.self.inside.hashes.items c.self.inside.keys c.in_ok-keys.keys c.args.idxs.now c.loop-i.hashes.items
    c.self.invariant c.in_ok-keys.ensures c.requires.few
    (c.loop-i.invariant ∙ ap (map (λ (i : ℕ). get_or c.self.inside.hashes.items i 0)) (take_all c.loop-i.i-index c.args.idxs.now (omega arith)))

pub returns : goal.returns
returns c =
    gathered_keys c.args.self.now c.self.inside.state c.self.inside.keys c.in_ok-keys.keys c.args.idxs.now c.self.view_is c.in_ok-keys.ensures
