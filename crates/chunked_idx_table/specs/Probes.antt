-- What a table answers.
use Rattle.std.specs.Prelude.{◌≡◌, ℕ, ◌+◌, ◌<◌, Bool, false, ◌&&◌, ◌||◌, cond, List, [], ◌∷◌, ◌++◌, map, length, take, position, Option, Some, None, bytes_eq}
use Rattle.std.specs.List.{flat_map, list_any, range_with_len}
use Rattle.key_parts.specs.Positions.{Position}
use Rattle.hash_keys.specs.Keys.{Key, key_at}
use Rattle.chunked_idx_table.specs.Tables.{KeyEntry, ProbeTable, table_keys}
use Rattle.chunked_idx_table.specs.Inserts.{searches}

-- the positions of a key, none where it is absent
abbrev pub found : List KeyEntry → List ℕ → List Position
found [] key = []
found (e ∷ es) key = cond (bytes_eq e.key key) e.positions (found es key)

-- none where it is null
abbrev pub found_key : List KeyEntry → Key → List Position
found_key es None = []
found_key es (Some key) = found es key

-- the null position in place of none, where that is asked
abbrev pub or_null : Bool → List Position → List (Option Position)
or_null emit [] = cond emit (None ∷ []) []
or_null emit (x ∷ xs) = map (λ y. Some y) (x ∷ xs)

-- the matches of a key
abbrev pub matches : List KeyEntry → Bool → Key → List (Option Position)
matches es emit key = or_null emit (found_key es key)

-- the matches of the key of row i, and for each of them the index i
abbrev pub row_matches : ProbeTable → List Key → Bool → ℕ → List (Option Position)
row_matches t keys emit i = matches t.entries emit (key_at keys i)

abbrev pub row_indexes : ProbeTable → List Key → Bool → ℕ → List ℕ
row_indexes t keys emit i = map (λ _. i) (row_matches t keys emit i)

-- the keys at some indexes
abbrev pub keys_at : List Key → List ℕ → List Key
keys_at keys idxs = map (key_at keys) idxs

-- a key of a row is this key
abbrev pub is_key : List ℕ → Key → Bool
is_key key None = false
is_key key (Some other) = bytes_eq key other

-- some row's key joins this key
abbrev pub joins_any : List Key → List ℕ → Bool
joins_any keys key = list_any (is_key key) keys

-- an entry whose key passes a test is marked, beside those that were
abbrev pub mark_entry : (List ℕ → Bool) → KeyEntry → KeyEntry
mark_entry more e = record { key = e.key; positions = e.positions; marked = e.marked || more e.key }

abbrev pub marked_more : (List ℕ → Bool) → ProbeTable → ProbeTable
marked_more more t = record { entries = map (mark_entry more) t.entries; nulls = t.nulls; chunks = t.chunks; state = t.state }

-- with marking, the keys that the rows at these indexes join are marked
abbrev pub with_marks : Bool → List Key → List ℕ → ProbeTable → ProbeTable
with_marks marks keys idxs t = marked_more (λ key. marks && joins_any (keys_at keys idxs) key) t

-- what the items of a table give: each null position itself, and each key its positions, unless it is marked
abbrev pub items : ProbeTable → List (List Position)
items t = map (λ x. x ∷ []) t.nulls ++ map (λ e. cond e.marked [] e.positions) t.entries

-- rows are answered: the matches of each in turn, beside its index, and the marks
pub record Answered (marks emit : Bool) (old : ProbeTable) (keys : List Key) (idxs : List ℕ) (new : ProbeTable) (positions : List (Option Position)) (indexes : List ℕ) : Type 0 where
  pub positions_are : positions ≡ flat_map (row_matches old keys emit) idxs
  pub indexes_are : indexes ≡ flat_map (row_indexes old keys emit) idxs
  pub marks_are : new ≡ with_marks marks keys idxs old

-- after want of memory: the rows before the refused one are answered, and the refused one was searched, if its key is present
pub record AnswersFront (marks emit : Bool) (old : ProbeTable) (keys : List Key) (idxs : List ℕ) (new : ProbeTable) (positions : List (Option Position)) (indexes : List ℕ) (steps_old steps_new : ℕ) : Type 0 where
  pub count : ℕ
  pub some_left : count < length idxs
  pub answered : Answered marks emit old keys (take count idxs) new positions indexes
  pub cost : steps_new ≡ steps_old + searches (keys_at keys (take (count + 1) idxs))

-- all rows of some keys, or the rows that are asked for
abbrev pub all_rows : List Key → List ℕ
all_rows keys = range_with_len 0 (length keys)

abbrev pub asked_rows : List Key → Option (List ℕ) → List ℕ
asked_rows keys None = all_rows keys
asked_rows keys (Some idxs) = idxs

-- where a key stands in a table
abbrev pub key_index : List ℕ → ProbeTable → Option ℕ
key_index key t = position (bytes_eq key) (table_keys t)
