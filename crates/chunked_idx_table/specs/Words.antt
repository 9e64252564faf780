-- How a table keeps its positions: a word each, and the mark of a key in the top bit of its first word.
use Rattle.std.specs.Prelude.{◌≡◌, ℕ, ◌+◌, ◌*◌, ◌^◌, ◌<◌, ◌%◌, Bool, nat_le, List, map, length, slice_index, Option, Some, unwrap_or}
use Rattle.std.specs.List.{All}
use Rattle.std.specs.declared.alloc.Global.{Global}
use Rattle.smallvec.specs.declared.small_vec.SmallVec.{SmallVec}
use Rattle.key_parts.specs.declared.chunk_id.ChunkId.{ChunkId}
use Rattle.key_parts.specs.declared.hash.PlRandomState.{PlRandomState}
use Rattle.key_parts.specs.Positions.{Position, position, position_of}
use Rattle.key_parts.specs.Hashes.{hash_of}
use Rattle.byte_map.specs.Entries.{Entry}
use Rattle.chunked_idx_table.specs.Tables.{KeyEntry, size_of}

abbrev pub Words : Type 0
Words = SmallVec ℕ 1 Global

-- the position that a word stands for, its top bit ignored
abbrev pub first_position : Position
first_position = record { chunk = 0; row = 0 }

unfoldable pub position_kept : ℕ → Position
position_kept word = unwrap_or (position_of (word % 2 ^ 63)) first_position

-- the position of an id that is not null
abbrev pub position_at : ChunkId → Position
position_at id = unwrap_or (position id) first_position

-- whether a first word has the mark
abbrev pub has_mark : List ℕ → Bool
has_mark words = nat_le (2 ^ 63) (slice_index words 0)

-- an entry of the map, as contracts see it
abbrev pub key_entry : Entry Words → KeyEntry
key_entry e = record { key = e.key; positions = map position_kept e.value.items; marked = has_mark e.value.items }

-- an entry's key came with its hash, and has a position
pub record IsKept (state : PlRandomState) (e : Entry Words) : Type 0 where
  pub hashed : e.hash ≡ hash_of state e.key
  pub some : 0 < length e.value.items

-- what is true of each table
pub record AreKept (state : PlRandomState) (entries : List (Entry Words)) (nulls : List ChunkId) : Type 0 where
  pub keys : All (IsKept state) entries
  pub positions : map position nulls ≡ map (λ id. Some (position_at id)) nulls
  pub few : length entries + length nulls < 2 ^ 32
