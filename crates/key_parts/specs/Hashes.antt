-- The hash of key bytes: FNV-1a from a seed, under a mask.
use Rattle.std.specs.Prelude.{ℕ, ◌*◌, ◌%◌, ◌^◌, List, fold, bit_and, bit_xor}
use Rattle.key_parts.specs.declared.hash.PlRandomState.{PlRandomState}

-- a byte more
abbrev pub mixed : ℕ → ℕ → ℕ
mixed h byte = bit_xor h byte * 1099511628211 % 2 ^ 64

-- the hash of bytes under a state
unfoldable pub hash_of : PlRandomState → List ℕ → ℕ
hash_of state bytes = bit_and (fold mixed state.seed bytes) state.mask

-- the state that holds where none is given
abbrev pub default_state : PlRandomState
default_state = record { seed = 0xcbf29ce484222325; mask = 0xffffffffffffffff }
