-- Rows that a table takes.
use Rattle.std.specs.Prelude.{◌≡◌, ℕ, ◌+◌, ◌<◌, Bool, false, cond, List, [], ◌∷◌, ◌++◌, map, filter, fold, length, take, Some, None, is_none, is_some, bytes_eq, count_by}
use Rattle.std.specs.List.{range_with_len}
use Rattle.key_parts.specs.Positions.{Position}
use Rattle.hash_keys.specs.Keys.{Key, key_at}
use Rattle.chunked_idx_table.specs.Tables.{KeyEntry, ProbeTable}

-- the rows of a chunk: the key of each, and its position
abbrev pub chunk_rows : ℕ → List Key → List (Key × Position)
chunk_rows chunk keys = map (λ row. (key_at keys row, record { chunk = chunk; row = row })) (range_with_len 0 (length keys))

-- a position more for a key, which comes last where it is new
abbrev pub with_position : List KeyEntry → List ℕ → Position → List KeyEntry
with_position [] key x = record { key = key; positions = x ∷ []; marked = false } ∷ []
with_position (e ∷ es) key x = cond (bytes_eq e.key key) (record { key = e.key; positions = e.positions ++ x ∷ []; marked = e.marked } ∷ es) (e ∷ with_position es key x)

-- a row more; a null key has no entry
abbrev pub with_row : List KeyEntry → Key × Position → List KeyEntry
with_row es (None, x) = es
with_row es (Some key, x) = with_position es key x

-- the positions of the null keys among rows
abbrev pub null_positions : List (Key × Position) → List Position
null_positions rows = map (λ r. r.1) (filter (λ r. is_none r.0) rows)

-- rows more: each under its key, and those of null keys where they are tracked
abbrev pub with_rows : Bool → ProbeTable → List (Key × Position) → ProbeTable
with_rows track t rows = record {
  entries = fold with_row t.entries rows;
  nulls = cond track (t.nulls ++ null_positions rows) t.nulls;
  chunks = t.chunks;
  state = t.state;
}

-- a chunk more
abbrev pub with_chunk : Bool → ProbeTable → List Key → ProbeTable
with_chunk track t keys = record (with_rows track t (chunk_rows t.chunks keys)) { chunks = t.chunks + 1 }

-- how many of these keys are searched: those that are present
abbrev pub searches : List Key → ℕ
searches keys = count_by is_some keys

-- after want of memory: the rows before the refused one are taken, the chunk number is not raised, and the refused row was searched, if its key is present
pub record InsertsFront (track : Bool) (old : ProbeTable) (keys : List Key) (new : ProbeTable) (steps_old steps_new : ℕ) : Type 0 where
  pub taken : ℕ
  pub some_left : taken < length keys
  pub rows : new ≡ with_rows track old (take taken (chunk_rows old.chunks keys))
  pub cost : steps_new ≡ steps_old + searches (take (taken + 1) keys)
