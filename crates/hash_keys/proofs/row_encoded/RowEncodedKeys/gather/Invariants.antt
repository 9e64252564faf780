use Rattle.std.proofs.Common.{◌≡◌, map, take, get_or}
use Rattle.hash_keys.proofs.row_encoded.RowEncodedKeys.gather.Given as goal

-- the hashes at the indexes so far
abbrev pub invariant-loop-i : goal.invariant-loop-i
invariant-loop-i l = l.hashes.items ≡ map (λ i. get_or l.self-inside.hashes.items i 0) (take l.i-index l.idxs)
