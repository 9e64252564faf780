-- Positions of rows in chunks, as words.
use Rattle.std.specs.Prelude.{ℕ, ◌+◌, ◌-◌, ◌*◌, ◌/◌, ◌%◌, ◌^◌, ◌==◌, cond, Option, Some, None}
use Rattle.key_parts.specs.declared.chunk_id.ChunkId.{ChunkId}

-- a row of a chunk
pub record Position : Type 0 where
  pub chunk : ℕ
  pub row : ℕ

-- the word of a position: the chunk in the low half, the row in the high half
abbrev pub word_of : Position → ℕ
word_of p = p.row * 2 ^ 32 + p.chunk

-- the position that a word stands for; the greatest word stands for none
unfoldable pub position_of : ℕ → Option Position
position_of word = cond (word == 2 ^ 64 - 1) None (Some (record { chunk = word % 2 ^ 32; row = word / 2 ^ 32 }))

-- the position that an id stands for, or none
unfoldable pub position : ChunkId → Option Position
position id = position_of id.word
