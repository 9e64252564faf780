-- Groups of keys, as contracts see them.
use Rattle.std.specs.Prelude.{ℕ, List, [], map, fold, slice_index_or, unwrap_or, bytes_eq}
use Rattle.col_core.specs.declared.schema.Field.{Field}
use Rattle.key_parts.specs.declared.hash.PlRandomState.{PlRandomState}
use Rattle.hash_keys.specs.Keys.{Key}
use Rattle.list_laws.specs.Distinct.{with_new}

-- the distinct keys in order of insertion, the schema that they are spelled under, and the state that they are hashed under
pub record KeyGroups : Type 0 where
  pub keys : List (List ℕ)
  pub schema : List Field
  pub state : PlRandomState

-- no keys
abbrev pub no_groups : List Field → PlRandomState → KeyGroups
no_groups schema state = record { keys = []; schema = schema; state = state }

-- keys, and those of a list that are new, each once, in order
abbrev pub with_keys : List (List ℕ) → List (List ℕ) → List (List ℕ)
with_keys keys given = fold (with_new bytes_eq) keys given

-- the bytes of keys that are all present
abbrev pub bytes_of : List Key → List (List ℕ)
bytes_of keys = map (λ k. unwrap_or k []) keys

-- the key at an index, and those at some indexes
abbrev pub key_at : List (List ℕ) → ℕ → List ℕ
key_at keys i = slice_index_or keys i []

abbrev pub keys_at : List (List ℕ) → List ℕ → List (List ℕ)
keys_at keys idxs = map (key_at keys) idxs
