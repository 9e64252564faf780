-- How a grouper keeps its keys.
use Rattle.std.specs.Prelude.{◌≡◌, ◌<◌, List, length}
use Rattle.std.specs.List.{All}
use Rattle.col_core.specs.declared.schema.Field.{Field}
use Rattle.key_parts.specs.declared.hash.PlRandomState.{PlRandomState}
use Rattle.key_parts.specs.Hashes.{hash_of}
use Rattle.byte_map.specs.Entries.{Entry}
use Rattle.row_code.specs.Spelling.{IsSpelling}

-- each key came with its hash and spells a row of the schema, and the schema has a field
pub record AreKept {V : Type 0} (schema : List Field) (state : PlRandomState) (entries : List (Entry V)) : Type 0 where
  pub hashed : All (λ e. e.hash ≡ hash_of state e.key) entries
  pub spelled : All (λ e. IsSpelling schema e.key) entries
  pub some : 0 < length schema
