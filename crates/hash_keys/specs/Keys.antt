-- Keys of rows, as lists.
use Rattle.std.specs.Prelude.{ℕ, List, Option, None, slice_index_or}
use Rattle.key_parts.specs.declared.hash.PlRandomState.{PlRandomState}

-- the key bytes of a row, or none where its key is null
abbrev pub Key : Type 0
Key = Option (List ℕ)

-- keys, and the state that they are hashed under
pub record Keys : Type 0 where
  pub state : PlRandomState
  pub keys : List Key

-- the key of a row
abbrev pub key_at : List Key → ℕ → Key
key_at keys i = slice_index_or keys i None
