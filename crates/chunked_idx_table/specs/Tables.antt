-- A probe table, as contracts see it.
use Rattle.std.specs.Prelude.{◌≡◌, ℕ, ◌+◌, ◌<◌, Bool, not, List, [], ◌++◌, map, length, bytes_eq}
use Rattle.std.specs.List.{All, filter, flat_map}
use Rattle.key_parts.specs.declared.hash.PlRandomState.{PlRandomState}
use Rattle.key_parts.specs.Positions.{Position}
use Rattle.list_laws.specs.Distinct.{NoRepeat}

-- a key with the positions of its rows, and whether it was matched
pub record KeyEntry : Type 0 where
  pub key : List ℕ
  pub positions : List Position
  pub marked : Bool

-- the keys in order of first insertion, the positions of the null keys that were tracked, the number of chunks, and the state that keys are hashed under
pub record ProbeTable : Type 0 where
  pub entries : List KeyEntry
  pub nulls : List Position
  pub chunks : ℕ
  pub state : PlRandomState

-- a table without a row
abbrev pub empty_table : PlRandomState → ProbeTable
empty_table state = record { entries = []; nulls = []; chunks = 0; state = state }

-- the keys of a table
abbrev pub table_keys : ProbeTable → List (List ℕ)
table_keys t = map (λ e. e.key) t.entries

-- the keys and null rows, which are counted together
abbrev pub size_of : ProbeTable → ℕ
size_of t = length t.entries + length t.nulls

-- no key stands twice
abbrev pub AreDistinct : ProbeTable → Type 0
AreDistinct t = NoRepeat bytes_eq (table_keys t)

-- each key has a position
abbrev pub HavePositions : ProbeTable → Type 0
HavePositions t = All (λ e. 0 < length e.positions) t.entries
