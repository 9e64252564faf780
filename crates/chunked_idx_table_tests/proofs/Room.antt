-- A chunk takes no more room than it has rows.
use Rattle.std.proofs.Common.{◌≡◌, ℕ, suc, ◌+◌, ◌^◌, ◌<◌, ◌≤◌, Bool, true, false, cond, List, [], ◌∷◌, fold, length, Some, None, bytes_eq, inl, inr, arith}
use Rattle.std.proofs.lemmas.Bool.{cases_Bool}
use Rattle.std.proofs.lemmas.List.{length-append}
use Rattle.key_parts.specs.Positions.{Position}
use Rattle.hash_keys.specs.Keys.{Key}
use Rattle.chunked_idx_table.specs.Tables.{KeyEntry, ProbeTable, size_of}
use Rattle.chunked_idx_table.specs.Inserts.{chunk_rows, null_positions, with_position, with_row, with_rows, with_chunk}
use Rattle.chunked_idx_table.proofs.Rows.{length-chunk_rows}
use Rattle.chunked_idx_table_tests.specs.Room.{HasRoom}

key_grows : (es : List KeyEntry) (key : List ℕ) (x : Position) → length (with_position es key x) ≤ suc (length es)
key_grows [] key x = omega arith
key_grows (e ∷ es) key x = elim (cases_Bool (bytes_eq e.key key)) [
  | inl same ↦ rw same (omega arith)
  | inr apart ↦ rw apart (omega (arith, key_grows es key x))
]

-- a row is a key more at the most, or a null position
rows_grow : (rows : List (Key × Position)) (es : List KeyEntry) → length (fold with_row es rows) + length (null_positions rows) ≤ length es + length rows
rows_grow [] es = omega arith
rows_grow ((None, x) ∷ rows) es = let rest = rows_grow rows es in omega arith
rows_grow ((Some key, x) ∷ rows) es = let rest = rows_grow rows (with_position es key x) in omega (arith, rest, key_grows es key x)

chunk_room : (t : ProbeTable) (keys : List Key) → size_of (with_chunk true t keys) ≤ size_of t + length keys
chunk_room t keys =
    let rows = chunk_rows t.chunks keys in
    omega (arith, rows_grow rows t.entries, length-append t.nulls (null_positions rows), length-chunk_rows t.chunks keys)

-- so that one for which there is room fits
pub chunk_fits : (t : ProbeTable) (rows : ℕ) (keys : List Key) → HasRoom t rows → length keys ≡ rows → size_of (with_chunk true t keys) < 2 ^ 32
chunk_fits t rows keys room long = omega (arith, chunk_room t keys, room.few, long)
