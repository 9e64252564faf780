-- How much a table grows by a chunk of rows.
use Rattle.std.proofs.Common.{◌≡◌, ℕ, suc, ◌+◌, ◌-◌, ◌^◌, ◌≤◌, ◌<◌, ap, true, false, cond, List, [], ◌∷◌, ◌++◌, map, filter, fold, length, Some, None, is_none, bytes_eq, arith}
use Rattle.std.proofs.lemmas.List.{length-append, length-map}
use Rattle.key_parts.specs.Positions.{Position}
use Rattle.hash_keys.specs.Keys.{Key, key_at}
use Rattle.chunked_idx_table.specs.Inserts.{chunk_rows, with_chunk, with_position, with_row}
use Rattle.chunked_idx_table.specs.Probes.{keys_at}
use Rattle.chunked_idx_table.specs.Tables.{KeyEntry, ProbeTable, size_of}
use Rattle.join_laws.specs.Partitions.{HasRoom}
use Rattle.chunked_idx_table.proofs.Rows.{length-chunk_rows}

position_grows : (es : List KeyEntry) (key : List ℕ) (x : Position) → length (with_position es key x) ≤ suc (length es)
position_grows [] key x = omega arith
position_grows (e ∷ es) key x =
    let r = position_grows es key x in
    elim (bytes_eq e.key key) as (λ v. length (cond v (record { key = e.key; positions = e.positions ++ x ∷ []; marked = e.marked } ∷ es) (e ∷ with_position es key x)) ≤ suc (suc (length es))) [ true ↦ omega arith | false ↦ omega arith ]

rows_grow : (rows : List (Key × Position)) (es : List KeyEntry) → length (fold with_row es rows) + length (filter (λ r. is_none r.0) rows) ≤ length es + length rows
rows_grow [] es = omega arith
rows_grow ((None, x) ∷ rows) es = let r = rows_grow rows es in omega arith
rows_grow ((Some key, x) ∷ rows) es = let r = rows_grow rows (with_position es key x) in let p = position_grows es key x in omega arith

-- by at most as many keys and null rows as there are rows
pub chunk_grows : (t : ProbeTable) (keys : List Key) → size_of (with_chunk true t keys) ≤ size_of t + length keys
chunk_grows t keys =
    let rows = chunk_rows t.chunks keys in
    let nulls = filter (λ (r : Key × Position). is_none r.0) rows in
    omega (arith, rows_grow rows t.entries, length-append t.nulls (map (λ (r : Key × Position). r.1) nulls), length-map nulls (λ (r : Key × Position). r.1), length-chunk_rows t.chunks keys)

-- a table with room takes a chunk
module _ (keys part : List Key) (rows : List ℕ) (t old : ProbeTable) (e : part ≡ keys_at keys rows) (short : length rows ≤ length keys) (was : t ≡ old) (room : HasRoom (length keys) old) where
  pub part_short : length part ≤ length keys
  part_short = omega (arith, ap length e, length-map rows (key_at keys), short)

  pub part_few : length part < 2 ^ 31
  part_few = omega (arith, part_short, room.1)

  pub chunks_few : t.chunks < 2 ^ 32 - 1
  chunks_few = omega (arith, room.0, ap (λ (u : ProbeTable). u.chunks) was)

  pub size_few : size_of (with_chunk true t part) < 2 ^ 32
  size_few = omega (arith, chunk_grows t part, part_short, room.1, ap size_of was)
