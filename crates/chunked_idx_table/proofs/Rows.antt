-- Rows that a table takes, one after the other.
use Rattle.std.proofs.Common.{◌≡◌, ℕ, zero, suc, ◌+◌, ◌-◌, ◌^◌, ◌<◌, ◌≤◌, Bool, true, false, cond, List, [], ◌∷◌, ◌++◌, map, filter, fold, length, take, get_or, slice_get, Option, Some, None, is_none, is_some, bytes_eq, refl, sym, ap, ap₂, ◌∙◌, inl, inr, append-nil, append_assoc, arith}
use Rattle.std.specs.Prelude.{option_copied}
use Rattle.std.specs.Borrow.{Bor}
use Rattle.std.specs.List.{All, flat_map, position, range_with_len}
use Rattle.std.proofs.lemmas.Bool.{cases_Bool, lt-leb}
use Rattle.std.proofs.lemmas.List.{length-map, length-append, map-append, take_more, get_or-map, get_or_append_left, get_or-append_right}
use Rattle.std.proofs.lemmas.List.Elements.{All-push, filter-append}
use Rattle.std.proofs.lemmas.List.FromFn.{get_or-map-range_with_len, length-map-range_with_len}
use Rattle.std.proofs.lemmas.List.Sums.{fold_push}
use Rattle.key_parts.specs.declared.hash.PlRandomState.{PlRandomState}
use Rattle.key_parts.specs.declared.chunk_id.ChunkId.{ChunkId}
use Rattle.key_parts.specs.Positions.{Position, position as id_position}
use Rattle.key_parts.specs.Hashes.{hash_of}
use Rattle.hash_keys.specs.Keys.{Key, key_at}
use Rattle.byte_map.specs.Entries.{Entry, keys_of, values_of}
use Rattle.byte_map.specs.Lending.{with_value}
use Rattle.chunked_idx_table.specs.Tables.{KeyEntry, ProbeTable, size_of}
use Rattle.chunked_idx_table.specs.Inserts.{chunk_rows, with_position, with_row, with_rows, null_positions, searches}
use Rattle.chunked_idx_table.specs.Probes.{items}
use Rattle.chunked_idx_table.specs.Words.{Words, position_kept, has_mark, key_entry, position_at, first_position, IsKept}
use Rattle.chunked_idx_table.proofs.Marks.{flipped, flipped_same, IsPlace, place_of, keys_seen, none_each, place_after, searches_push, some_copied, flat_map_push}

some_same : {X : Type 0} {x y : X} → Some x ≡ Some y → x ≡ y
some_same e = cc

-- a word that is written behind those of a key
pub word_written : (es : List (Entry Words)) (i : ℕ) (v w : Words) (key : List ℕ) (x : Position) → IsPlace (keys_of es) i key
    → slice_get (values_of es) i ≡ Some v → map position_kept w.items ≡ map position_kept v.items ++ x ∷ [] → has_mark w.items ≡ has_mark v.items
    → map key_entry (with_value es i w) ≡ with_position (map key_entry es) key x
word_written [] i v w key x p was more mark = absurd (let l = p.within in omega arith)
word_written (e ∷ es) zero v w key x p was more mark =
    let ps : map position_kept w.items ≡ map position_kept e.value.items ++ x ∷ [] = more ∙ ap (λ (y : Words). map position_kept y.items ++ x ∷ []) (sym (some_same was)) in
    let b : has_mark w.items ≡ has_mark e.value.items = mark ∙ ap (λ (y : Words). has_mark y.items) (sym (some_same was)) in
    rw (flipped_same key e.key p.here) (ap₂ (λ (qs : List Position) (b : Bool). record { key = e.key; positions = qs; marked = b } ∷ map key_entry es) ps b)
word_written (e ∷ es) (suc i) v w key x p was more mark =
    rw (flipped key e.key (p.before 0 (omega arith))) (ap (λ rest. key_entry e ∷ rest) (word_written es i v w key x (place_after e es i key p) was more mark))

new_at : (es : List KeyEntry) (key : List ℕ) (x : Position) → ((j : ℕ) → j < length es → bytes_eq key (get_or (map (λ e. e.key) es) j []) ≡ false) → with_position es key x ≡ es ++ record { key = key; positions = x ∷ []; marked = false } ∷ []
new_at [] key x h = refl
new_at (e ∷ es) key x h = rw (flipped key e.key (h 0 (omega arith))) (ap (λ rest. e ∷ rest) (new_at es key x (λ j l. h (suc j) (omega arith))))

-- a key that is new comes last, with one word
pub word_new : (es : List (Entry Words)) (e : Entry Words) (word : ℕ) → position (bytes_eq e.key) (keys_of es) ≡ None → e.value.items ≡ word ∷ [] → word < 2 ^ 63
    → map key_entry (es ++ e ∷ []) ≡ with_position (map key_entry es) e.key (position_kept word)
word_new es e word none items low =
    map-append key_entry es (e ∷ [])
    ∙ ap (λ (ws : List ℕ). map key_entry es ++ record { key = e.key; positions = map position_kept ws; marked = has_mark ws } ∷ []) items
    ∙ ap (λ (b : Bool). map key_entry es ++ record { key = e.key; positions = position_kept word ∷ []; marked = b } ∷ []) (lt-leb (2 ^ 63) word low)
    ∙ sym (new_at (map key_entry es) e.key (position_kept word) (λ j l. none_each (map (λ e. e.key) (map key_entry es)) e.key (ap (position (bytes_eq e.key)) (keys_seen es) ∙ none) j (omega (arith, length-map (map key_entry es) (λ e. e.key)))))

-- and is kept
pub kept_new : (state : PlRandomState) (es : List (Entry Words)) (e : Entry Words) (word : ℕ) → All (IsKept state) es → e.hash ≡ hash_of state e.key → e.value.items ≡ word ∷ [] → All (IsKept state) (es ++ e ∷ [])
kept_new state es e word kept hashed items =
    let some : 0 < length e.value.items = rw items (omega arith) in
    All-push (IsKept state) es e kept (record { hashed = hashed; some = some })

row_grows : (es : List KeyEntry) (r : Key × Position) → length es ≤ length (with_row es r)
row_grows es (None, x) = omega arith
row_grows es (Some key, x) = go es
  where
    go : (es : List KeyEntry) → length es ≤ length (with_position es key x)
    go [] = omega arith
    go (e ∷ es) = elim (cases_Bool (bytes_eq e.key key)) [
      | inl same ↦ rw same (omega arith)
      | inr apart ↦ rw apart (omega (arith, go es))
    ]

rows_grow : (rows : List (Key × Position)) (es : List KeyEntry) → length es ≤ length (fold with_row es rows)
rows_grow [] es = omega arith
rows_grow (r ∷ rows) es = omega (arith, row_grows es r, rows_grow rows (with_row es r))

front_grows : (rows : List (Key × Position)) (i : ℕ) (es : List KeyEntry) → length (fold with_row es (take i rows)) ≤ length (fold with_row es rows)
front_grows rows zero es = rows_grow rows es
front_grows [] (suc i) es = omega arith
front_grows (r ∷ rows) (suc i) es = front_grows rows i (with_row es r)

nulls_front : (rows : List (Key × Position)) (i : ℕ) → length (null_positions (take i rows)) ≤ length (null_positions rows)
nulls_front rows zero = omega arith
nulls_front [] (suc i) = omega arith
nulls_front ((None, x) ∷ rows) (suc i) = let rest = nulls_front rows i in omega arith
nulls_front ((Some key, x) ∷ rows) (suc i) = nulls_front rows i

-- a front of the rows leaves a table that is no greater
pub size_front : (track : Bool) (t : ProbeTable) (rows : List (Key × Position)) (i : ℕ) → size_of (with_rows track t (take i rows)) ≤ size_of (with_rows track t rows)
size_front true t rows i = omega (arith, front_grows rows i t.entries, nulls_front rows i, length-append t.nulls (null_positions (take i rows)), length-append t.nulls (null_positions rows))
size_front false t rows i = omega (arith, front_grows rows i t.entries)

nulls_more : (track : Bool) (nulls : List Position) (rows : List (Key × Position)) (r : Key × Position)
    → cond track (cond track (nulls ++ null_positions rows) nulls ++ null_positions (r ∷ [])) (cond track (nulls ++ null_positions rows) nulls) ≡ cond track (nulls ++ null_positions (rows ++ r ∷ [])) nulls
nulls_more false nulls rows r = refl
nulls_more true nulls rows r =
    append_assoc nulls (null_positions rows) (null_positions (r ∷ []))
    ∙ ap (λ xs. nulls ++ xs) (sym (ap (map (λ (q : Key × Position). q.1)) (filter-append (λ (q : Key × Position). is_none q.0) rows (r ∷ [])) ∙ map-append (λ (q : Key × Position). q.1) (filter (λ (q : Key × Position). is_none q.0) rows) (filter (λ (q : Key × Position). is_none q.0) (r ∷ []))))

-- one row more
pub rows_more : (track : Bool) (t : ProbeTable) (rows : List (Key × Position)) (r : Key × Position) → with_rows track (with_rows track t rows) (r ∷ []) ≡ with_rows track t (rows ++ r ∷ [])
rows_more track t rows r = ap₂ (λ (es : List KeyEntry) (ns : List Position). record { entries = es; nulls = ns; chunks = t.chunks; state = t.state }) (sym (fold_push with_row t.entries rows r)) (nulls_more track t.nulls rows r)

-- the row of a chunk at i
pub row_at : (chunk : ℕ) (keys : List Key) (i : ℕ) (d : Key × Position) → i < length keys → get_or (chunk_rows chunk keys) i d ≡ (key_at keys i, record { chunk = chunk; row = i })
row_at chunk keys i d h = get_or-map-range_with_len (λ row. (key_at keys row, record { chunk = chunk; row = row })) 0 (length keys) i i d h (let e : 0 + i ≡ i = omega arith in e)

pub length-chunk_rows : (chunk : ℕ) (keys : List Key) → length (chunk_rows chunk keys) ≡ length keys
length-chunk_rows chunk keys = length-map-range_with_len (λ row. (key_at keys row, record { chunk = chunk; row = row })) 0 (length keys)

-- one row of a chunk more
pub chunk_step : (track : Bool) (t : ProbeTable) (keys : List Key) (i : ℕ) → i < length keys
    → with_rows track (with_rows track t (take i (chunk_rows t.chunks keys))) ((key_at keys i, record { chunk = t.chunks; row = i }) ∷ []) ≡ with_rows track t (take (i + 1) (chunk_rows t.chunks keys))
chunk_step track t keys i h =
    let rows = chunk_rows t.chunks keys in
    let d : Key × Position = (None, record { chunk = 0; row = 0 }) in
    rows_more track t (take i rows) (key_at keys i, record { chunk = t.chunks; row = i })
    ∙ ap (λ (r : Key × Position). with_rows track t (take i rows ++ r ∷ [])) (sym (row_at t.chunks keys i d h))
    ∙ ap (with_rows track t) (sym (take_more rows i d (omega (arith, length-chunk_rows t.chunks keys))))

pub searched_step : (keys : List Key) (i : ℕ) → i < length keys → searches (take (i + 1) keys) ≡ searches (take i keys) + cond (is_some (key_at keys i)) 1 0
searched_step keys i h = ap searches (take_more keys i None h) ∙ searches_push (take i keys) (key_at keys i)

-- a key that is new needs room
pub new_length : (es : List (Entry Words)) (key : List ℕ) (x : Position) → position (bytes_eq key) (keys_of es) ≡ None → length (with_position (map key_entry es) key x) ≡ length es + 1
new_length es key x none =
    ap length (new_at (map key_entry es) key x (λ j l. none_each (map (λ e. e.key) (map key_entry es)) key (ap (position (bytes_eq key)) (keys_seen es) ∙ none) j (omega (arith, length-map (map key_entry es) (λ e. e.key)))))
    ∙ length-append (map key_entry es) (record { key = key; positions = x ∷ []; marked = false } ∷ [])
    ∙ ap (λ n. n + length (x ∷ [])) (length-map es key_entry)

pub room_for_new : (es : List (Entry Words)) (ids : List ChunkId) (key : List ℕ) (x : Position) → position (bytes_eq key) (keys_of es) ≡ None
    → length (with_position (map key_entry es) key x) + length (map position_at ids) < 2 ^ 32 → length es + 1 + length ids < 2 ^ 32
room_for_new es ids key x none h = omega (arith, h, new_length es key x none, length-map ids position_at)

-- a row whose key is present is an entry's
pub row_taken : (track : Bool) (t : ProbeTable) (key : List ℕ) (x : Position) → with_rows track t ((Some key, x) ∷ []) ≡ record t { entries = with_position t.entries key x }
row_taken true t key x = ap (λ (ns : List Position). record { entries = with_position t.entries key x; nulls = ns; chunks = t.chunks; state = t.state }) (append-nil t.nulls)
row_taken false t key x = refl

-- steps of searches, as rows are taken
pub cost_step : (keys : List Key) (i : ℕ) (key : Option (Bor (List ℕ))) (start now new : ℕ) → i < length keys → option_copied key ≡ key_at keys i
    → now ≡ start + searches (take i keys) → new ≡ now + cond (is_some key) 1 0 → new ≡ start + searches (take (i + 1) keys)
cost_step keys i key start now new h is before after =
    let same : is_some key ≡ is_some (key_at keys i) = sym (some_copied key) ∙ ap is_some is in
    let step = searched_step keys i h in
    let more = rw same at after in
    omega (arith, before, more, step)

-- a turn of the loop that inserts: the row's key is lent
pub chunk_turn : (track : Bool) (old : ProbeTable) (keys : List Key) (i : ℕ) (key : Key) (now : ProbeTable) → i < length keys → key ≡ key_at keys i → now ≡ with_rows track old (take i (chunk_rows old.chunks keys))
    → with_rows track now ((key, record { chunk = now.chunks; row = i }) ∷ []) ≡ with_rows track old (take (i + 1) (chunk_rows old.chunks keys))
chunk_turn track old keys i key now h lent so_far =
    ap (λ (u : ProbeTable). with_rows track u ((key, record { chunk = u.chunks; row = i }) ∷ [])) so_far
    ∙ ap (λ (k : Key). with_rows track (with_rows track old (take i (chunk_rows old.chunks keys))) ((k, record { chunk = old.chunks; row = i }) ∷ [])) lent
    ∙ chunk_step track old keys i h

-- the items of a table: first the null positions
pub item_null : (ids : List ChunkId) (t : ProbeTable) (i : ℕ) (id : ChunkId) → map id_position ids ≡ map (λ q. Some (position_at q)) ids → map position_at ids ≡ t.nulls → i < length ids → id ≡ get_or ids i id
    → id_position id ∷ [] ≡ map (λ x. Some x) (get_or (items t) i [])
item_null ids t i id kept seen h at =
    let xs = map (λ (x : Position). x ∷ []) t.nulls in
    let long : length ids ≡ length t.nulls = sym (length-map ids position_at) ∙ ap length seen in
    let l : i < length xs = omega (arith, h, long, length-map t.nulls (λ (x : Position). x ∷ [])) in
    let m : i < length t.nulls = omega (arith, h, long) in
    let x : get_or t.nulls i first_position ≡ position_at id = ap (λ (ns : List Position). get_or ns i first_position) (sym seen) ∙ get_or-map position_at ids i id first_position h ∙ ap position_at (sym at) in
    let here : id_position id ≡ Some (position_at id) =
    ap id_position at ∙ sym (get_or-map id_position ids i id None h) ∙ ap (λ (os : List (Option Position)). get_or os i None) kept ∙ get_or-map (λ q. Some (position_at q)) ids i id None h ∙ ap (λ q. Some (position_at q)) (sym at)
    in
    ap (λ (o : Option Position). o ∷ []) (here ∙ ap (λ (y : Position). Some y) (sym x))
    ∙ sym (ap (map (λ y. Some y)) (get_or_append_left xs (map (λ e. cond e.marked [] e.positions) t.entries) [] i l ∙ get_or-map (λ (y : Position). y ∷ []) t.nulls i first_position [] m))

-- and then the keys
abbrev pub positions_of : KeyEntry → List Position
positions_of e = cond e.marked [] e.positions

pub item_key : (t : ProbeTable) (i : ℕ) → length t.nulls ≤ i → get_or (items t) i [] ≡ get_or (map positions_of t.entries) (i - length t.nulls) []
item_key t i h =
    let xs = map (λ (x : Position). x ∷ []) t.nulls in
    get_or-append_right xs (map positions_of t.entries) (length t.nulls) i [] (length-map t.nulls (λ (x : Position). x ∷ [])) h

pub entry_item : (es : List (Entry Words)) (i : ℕ) (v : Words) → slice_get (values_of es) i ≡ Some v → get_or (map positions_of (map key_entry es)) i [] ≡ cond (has_mark v.items) [] (map position_kept v.items)
entry_item [] i v at = absurd (let no : None ≡ Some v = at in cc)
entry_item (e ∷ es) zero v at = ap (λ (w : Words). cond (has_mark w.items) [] (map position_kept w.items)) (some_same at)
entry_item (e ∷ es) (suc i) v at = entry_item es i v at

pub length-items : (t : ProbeTable) → length (items t) ≡ size_of t
length-items t =
    let a = length-append (map (λ (x : Position). x ∷ []) t.nulls) (map positions_of t.entries) in
    omega (arith, a, length-map t.nulls (λ (x : Position). x ∷ []), length-map t.entries positions_of)

-- an item more
pub item_more : (xs : List (List Position)) (i : ℕ) → i < length xs → flat_map (λ x. x) (take (i + 1) xs) ≡ flat_map (λ x. x) (take i xs) ++ get_or xs i []
item_more xs i h = ap (flat_map (λ x. x)) (take_more xs i [] h) ∙ flat_map_push (λ x. x) (take i xs) (get_or xs i [])

pub listed_turn : (xs : List (List Position)) (i : ℕ) (item : List Position) (ps ps' : List (Option Position)) → i < length xs → item ≡ get_or xs i []
    → ps ≡ map (λ x. Some x) (flat_map (λ x. x) (take i xs)) → ps' ≡ ps ++ map (λ x. Some x) item → ps' ≡ map (λ x. Some x) (flat_map (λ x. x) (take (i + 1) xs))
listed_turn xs i item ps ps' h at so_far more =
    more ∙ ap₂ (λ (qs : List (Option Position)) (ys : List Position). qs ++ map (λ x. Some x) ys) so_far at
    ∙ sym (map-append (λ x. Some x) (flat_map (λ x. x) (take i xs)) (get_or xs i []))
    ∙ ap (map (λ x. Some x)) (sym (item_more xs i h))

-- what the item of an entry gives
pub item_entry : (es : List (Entry Words)) (t : ProbeTable) (i n : ℕ) (v : Words) → map key_entry es ≡ t.entries → n ≡ length t.nulls → n ≤ i → slice_get (values_of es) (i - n) ≡ Some v
    → get_or (items t) i [] ≡ cond (has_mark v.items) [] (map position_kept v.items)
item_entry es t i n v seen long h at =
    item_key t i (omega arith)
    ∙ ap (λ (m : ℕ). get_or (map positions_of t.entries) (i - m) []) (sym long)
    ∙ ap (λ (entries : List KeyEntry). get_or (map positions_of entries) (i - n) []) (sym seen)
    ∙ entry_item es (i - n) v at
