-- Replies of a table that go on from row to row, and the room that a chunk takes.
use Rattle.std.proofs.Common.{◌≡◌, ℕ, suc, ◌+◌, ◌^◌, ◌<◌, ◌≤◌, true, false, List, [], ◌∷◌, ◌++◌, map, flat_map, fold, length, take, drop, Option, Some, None, bytes_eq, sym, ap, ap₂, ◌∙◌, inl, inr, arith}
use Rattle.std.proofs.lemmas.Bool.{cases_Bool}
use Rattle.std.proofs.lemmas.List.{map-append}
use Rattle.std.proofs.lemmas.List.Concat.{flat_map-append}
use Rattle.std.proofs.Math.Seq.{take-add}
use Rattle.key_parts.specs.declared.hash.PlRandomState.{PlRandomState}
use Rattle.key_parts.specs.Positions.{Position}
use Rattle.hash_keys.specs.Keys.{Key}
use Rattle.chunked_idx_table.specs.Tables.{KeyEntry, ProbeTable, empty_table, size_of}
use Rattle.chunked_idx_table.specs.Inserts.{chunk_rows, null_positions, with_position, with_row, with_chunk}
use Rattle.chunked_idx_table.specs.Probes.{with_marks}
use Rattle.chunked_idx_table.proofs.Marks.{none_marked}
use Rattle.chunked_idx_table.proofs.Rows.{length-chunk_rows}

key_grows : (es : List KeyEntry) (key : List ℕ) (x : Position) → length (with_position es key x) ≤ suc (length es)
key_grows [] key x = omega arith
key_grows (e ∷ es) key x = elim (cases_Bool (bytes_eq e.key key)) [
  | inl same ↦ rw same (omega arith)
  | inr apart ↦ rw apart (omega (arith, key_grows es key x))
]

rows_grow : (rows : List (Key × Position)) (es : List KeyEntry) → length (fold with_row es rows) + length (null_positions rows) ≤ length es + length rows
rows_grow [] es = omega arith
rows_grow ((None, x) ∷ rows) es = let rest = rows_grow rows es in omega arith
rows_grow ((Some key, x) ∷ rows) es = let rest = rows_grow rows (with_position es key x) in omega (arith, rest, key_grows es key x)

-- a table of one chunk has no more keys and null rows than the chunk has rows
pub one_chunk_fits : (state : PlRandomState) (keys : List Key) → length keys < 2 ^ 31 → size_of (with_chunk true (empty_table state) keys) < 2 ^ 32
one_chunk_fits state keys h =
    let rows = chunk_rows 0 keys in
    omega (arith, rows_grow rows [], length-chunk_rows 0 keys, h)

unmarked : (keys : List Key) (rows : List ℕ) (t : ProbeTable) → with_marks false keys rows t ≡ t
unmarked keys rows t = ap (λ (es : List KeyEntry). record { entries = es; nulls = t.nulls; chunks = t.chunks; state = t.state }) (none_marked t.entries)

-- the replies so far and one more are those of the first rows
pub replies_more : {A B : Type 0} (f : ℕ → List (Option A)) (g : B → Option A) (rows rest : List ℕ) (i n : ℕ) (old more lent new : List B) → rest ≡ drop i rows
    → map g old ≡ flat_map f (take i rows) → map g more ≡ flat_map f (take n rest) → lent ≡ more → new ≡ old ++ lent → map g new ≡ flat_map f (take (i + n) rows)
replies_more {A} {B} f g rows rest i n old more lent new left so_far reply same all =
    ap (map g) (all ∙ ap (λ (xs : List B). old ++ xs) same) ∙ map-append g old more
    ∙ ap₂ (λ (x y : List (Option A)). x ++ y) so_far (reply ∙ ap (λ (qs : List ℕ). flat_map f (take n qs)) left)
    ∙ sym (flat_map-append f (take i rows) (take n (drop i rows)))
    ∙ ap (flat_map f) (sym (take-add i n rows))

-- a table in which nothing is marked stays
pub stays : (keys : List Key) (rows : List ℕ) (t now new : ProbeTable) → new ≡ with_marks false keys rows now → now ≡ t → new ≡ t
stays keys rows t now new marks same = marks ∙ unmarked keys rows now ∙ same
