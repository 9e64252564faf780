use Rattle.std.proofs.Common.{◌≡◌, take}
use Rattle.std.specs.List.{fold}
use Rattle.key_parts.specs.Hashes.{mixed}
use Rattle.key_parts.proofs.hash.PlRandomState.hash_one.Given as goal

-- the bytes taken so far are mixed in
abbrev pub invariant-loop-byte : goal.invariant-loop-byte
invariant-loop-byte l = l.hash ≡ fold mixed l.self.seed (take l.byte-index l.bytes)
