-- Keys and hashes as they are kept.
use Rattle.std.specs.Prelude.{◌≡◌, ◌<◌, ◌^◌, ℕ, Bool, List, map, length}
use Rattle.key_parts.specs.declared.hash.PlRandomState.{PlRandomState}
use Rattle.key_parts.specs.Hashes.{hash_of}
use Rattle.col_arrays.specs.Items.{stored}

-- each hash is that of the bytes beside it, under a null too
pub record AreHashed (state : PlRandomState) (hashes : List ℕ) (items : List (List ℕ × Bool)) : Type 0 where
  pub hashed : hashes ≡ map (hash_of state) (stored items)
  pub few : length items < 2 ^ 32
