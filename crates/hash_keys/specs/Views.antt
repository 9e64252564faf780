-- What contracts see of keys, whichever way they are kept.
use Rattle.std.specs.Prelude.{List}
use Rattle.key_parts.specs.declared.hash.PlRandomState.{PlRandomState}
use Rattle.hash_keys.specs.Keys.{Key}
use Rattle.hash_keys.specs.declared.keys.HashKeys.{HashKeys}
use Rattle.hash_keys.specs.declared.keys.HashKeys.TheVariants.{RowEncoded}

-- the keys of rows, and the state that they are hashed under
abbrev pub keys_of : HashKeys → List Key
keys_of (RowEncoded keys) = keys.keys

abbrev pub state_of : HashKeys → PlRandomState
state_of (RowEncoded keys) = keys.state
