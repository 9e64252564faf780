use Rattle.std.proofs.Common.{◌≡◌, map, take}
use Rattle.key_parts.specs.Hashes.{hash_of}
use Rattle.col_arrays.specs.Items.{stored}
use Rattle.hash_keys.proofs.row_encoded.RowEncodedKeys.from_array.Given as goal

-- the hashes of the items so far
abbrev pub invariant-loop-i : goal.invariant-loop-i
invariant-loop-i l = l.hashes.items ≡ map (hash_of l.random_state) (take l.i (stored l.fn.keys))
