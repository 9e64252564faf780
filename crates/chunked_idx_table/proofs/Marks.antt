-- Keys that are found and marked, and rows that are answered.
use Rattle.std.proofs.Common.{◌≡◌, ℕ, zero, suc, ◌+◌, ◌-◌, ◌<◌, ◌≤◌, Bool, true, false, not, ◌&&◌, ◌||◌, cond, List, [], ◌∷◌, ◌++◌, map, length, take, get_or, slice_get, slice_index, slice_index_or, Option, Some, None, is_some, bytes_eq, refl, sym, ap, ap₂, subst, ◌∙◌, inl, inr, append-nil, arith}
use Rattle.std.specs.Prelude.{option_copied, unwrap_or, IfSome}
use Rattle.std.specs.Borrow.{Bor}
use Rattle.std.specs.List.{All, flat_map, list_any, position, position_or_len, range_with_len}
use Rattle.std.proofs.lemmas.Bool.{cases_Bool, cases_lt, false≢true, lt-ltb, or_parts}
use Rattle.std.proofs.lemmas.List.{length-map, map-append, take_more}
use Rattle.std.proofs.lemmas.List.Concat.{flat_map-append}
use Rattle.std.proofs.lemmas.List.Elements.{All-head, All-tail, All-cons, All-map, All-weaker, All-get_or, All-from_get_or}
use Rattle.std.proofs.lemmas.List.FromFn.{length-range_with_len}
use Rattle.std.proofs.lemmas.List.Folds.{list_any-append}
use Rattle.std.proofs.lemmas.List.Sums.{prefix_len_passes, fold_push}
use Rattle.std.proofs.lemmas.List.Quantifiers.{position-Some}
use Rattle.std.proofs.lemmas.Slice.Eq.{bytes_eq-Decides}
use Rattle.key_parts.specs.declared.hash.PlRandomState.{PlRandomState}
use Rattle.key_parts.specs.declared.chunk_id.ChunkId.{ChunkId}
use Rattle.key_parts.specs.Positions.{Position, position as id_position}
use Rattle.key_parts.specs.Hashes.{hash_of}
use Rattle.hash_keys.specs.Keys.{Key, key_at}
use Rattle.list_laws.specs.Distinct.{NoRepeat}
use Rattle.byte_map.specs.Entries.{Entry, keys_of, hashes_of, values_of, ComesWith}
use Rattle.byte_map.specs.Lending.{with_value}
use Rattle.chunked_idx_table.specs.Tables.{KeyEntry, ProbeTable, table_keys}
use Rattle.chunked_idx_table.specs.Inserts.{searches}
use Rattle.chunked_idx_table.specs.Probes.{found, matches, or_null, is_key, joins_any, keys_at, mark_entry, marked_more, with_marks, row_matches, row_indexes, all_rows, asked_rows, Answered}
use Rattle.chunked_idx_table.specs.Words.{Words, position_kept, has_mark, key_entry, position_at, first_position, IsKept}
use Rattle.chunked_idx_table.proofs.Resumed.{matches_marked}

some_same : {X : Type 0} {x y : X} → Some x ≡ Some y → x ≡ y
some_same e = cc

-- equality of bytes holds in either order
pub flipped : (a b : List ℕ) → bytes_eq a b ≡ false → bytes_eq b a ≡ false
flipped a b h = elim (cases_Bool (bytes_eq b a)) [
  | inl same ↦ absurd (false≢true (sym h ∙ (bytes_eq-Decides a b).1 (sym ((bytes_eq-Decides b a).0 same))))
  | inr apart ↦ apart
]

pub flipped_same : (a b : List ℕ) → bytes_eq a b ≡ true → bytes_eq b a ≡ true
flipped_same a b h = (bytes_eq-Decides b a).1 (sym ((bytes_eq-Decides a b).0 h))

-- the test of one key
abbrev pub only : List ℕ → List ℕ → Bool
only key k = is_key k (Some key)

-- the keys that contracts see
pub keys_seen : (es : List (Entry Words)) → map (λ e. e.key) (map key_entry es) ≡ keys_of es
keys_seen [] = refl
keys_seen (e ∷ es) = ap (λ ks. e.key ∷ ks) (keys_seen es)

-- each key comes with the hash that was kept
comes_at : (state : PlRandomState) (es : List (Entry Words)) (hash : ℕ) (key : List ℕ) → All (IsKept state) es → hash ≡ hash_of state key → (i : ℕ) → i < length es → slice_index_or (keys_of es) i [] ≡ key → slice_index (hashes_of es) i ≡ hash
comes_at state [] hash key kept h i l same = absurd (omega arith)
comes_at state (e ∷ es) hash key kept h zero l same = (All-head (IsKept state) e es kept).hashed ∙ ap (hash_of state) same ∙ sym h
comes_at state (e ∷ es) hash key kept h (suc i) l same = comes_at state es hash key (All-tail (IsKept state) e es kept) h i (omega arith) same

pub comes_kept : (state : PlRandomState) (es : List (Entry Words)) (hash : ℕ) (key : List ℕ) → All (IsKept state) es → hash ≡ hash_of state key → ComesWith es hash key
comes_kept state es hash key kept h = λ i l same. comes_at state es hash key kept h i l same

-- a key that stands nowhere is no key
pub none_each : (keys : List (List ℕ)) (key : List ℕ) → position (bytes_eq key) keys ≡ None → (j : ℕ) → j < length keys → bytes_eq key (get_or keys j []) ≡ false
none_each keys key none j l = elim (cases_Bool (bytes_eq key (get_or keys j []))) [
  | inl same ↦ absurd (there same)
  | inr differs ↦ differs
]
  where
    some_none : (i : ℕ) → Some i ≡ None → ⊥
    some_none i e = cc

    there : bytes_eq key (get_or keys j []) ≡ true → ⊥
    there same =
        let n = position_or_len (bytes_eq key) keys in
        elim (cases_lt n (length keys)) [
          | inl less ↦ some_none n (sym (ap (λ (b : Bool). cond b (Some n) None) (lt-ltb n (length keys) less)) ∙ none)
          | inr all ↦
              let passes : not (bytes_eq key (get_or keys j [])) ≡ true = prefix_len_passes (λ x. not (bytes_eq key x)) keys j [] (omega arith) in
              false≢true (sym (ap not same) ∙ passes)
        ]

or_none : (b : Bool) → (b || false) ≡ b
or_none true = refl
or_none false = refl

or_true : (b : Bool) → (b || true) ≡ true
or_true true = refl
or_true false = refl

or_assoc : (a b c : Bool) → ((a || b) || c) ≡ (a || (b || c))
or_assoc true b c = refl
or_assoc false b c = refl

abbrev as_marked : KeyEntry → Bool → KeyEntry
as_marked e b = record { key = e.key; positions = e.positions; marked = b }

none_at : (es : List KeyEntry) (key : List ℕ) → ((j : ℕ) → j < length es → bytes_eq key (get_or (map (λ e. e.key) es) j []) ≡ false) → (found es key ≡ []) × (map (mark_entry (only key)) es ≡ es)
none_at [] key h = (refl, refl)
none_at (e ∷ es) key h =
    let rest = none_at es key (λ j l. h (suc j) (omega arith)) in
    let no : bytes_eq e.key key ≡ false = flipped key e.key (h 0 (omega arith)) in (
      rw no rest.0,
      ap₂ (λ b r. as_marked e b ∷ r) (ap (λ b. e.marked || b) no ∙ or_none e.marked) rest.1,
    )

-- and has nothing to find or to mark
pub none_found : (es : List KeyEntry) (key : List ℕ) → position (bytes_eq key) (map (λ e. e.key) es) ≡ None → (found es key ≡ []) × (map (mark_entry (only key)) es ≡ es)
none_found es key none = none_at es key (λ j l. none_each (map (λ e. e.key) es) key none j (omega (arith, length-map es (λ e. e.key))))

-- what stands at the place of a key, and no such key before it
pub record IsPlace (keys : List (List ℕ)) (i : ℕ) (key : List ℕ) : Type 0 where
  pub within : i < length keys
  pub here : bytes_eq key (get_or keys i []) ≡ true
  pub before : (j : ℕ) → j < i → bytes_eq key (get_or keys j []) ≡ false

pub place_of : (es : List (Entry Words)) (i : ℕ) (key : List ℕ) → position (bytes_eq key) (map (λ e. e.key) (map key_entry es)) ≡ Some i → IsPlace (keys_of es) i key
place_of es i key at =
    let p = position-Some (bytes_eq key) (keys_of es) i [] (ap (position (bytes_eq key)) (sym (keys_seen es)) ∙ at) in
    record { within = p.0; here = p.1; before = p.2 }

pub place_after : (e : Entry Words) (es : List (Entry Words)) (i : ℕ) (key : List ℕ) → IsPlace (keys_of (e ∷ es)) (suc i) key → IsPlace (keys_of es) i key
place_after e es i key p = record {
  within = let l = p.within in omega arith;
  here = p.here;
  before = λ j l. p.before (suc j) (omega arith);
}

-- the value at a place has a position
pub some_at : (state : PlRandomState) (es : List (Entry Words)) (i : ℕ) (v : Words) → All (IsKept state) es → slice_get (values_of es) i ≡ Some v → 0 < length v.items
some_at state [] i v h at = absurd (let no : None ≡ Some v = at in cc)
some_at state (e ∷ es) zero v h at = subst (λ (x : Words). 0 < length x.items) (some_same at) (All-head (IsKept state) e es h).some
some_at state (e ∷ es) (suc i) v h at = some_at state es i v (All-tail (IsKept state) e es h) at

-- a write of words that have a position leaves each entry kept
pub kept_written : (state : PlRandomState) (es : List (Entry Words)) (i : ℕ) (w : Words) → All (IsKept state) es → 0 < length w.items → All (IsKept state) (with_value es i w)
kept_written state [] i w h p = h
kept_written state (e ∷ es) zero w h p =
    let P : Entry Words → Type 0 = IsKept state in
    All-cons P (record e { value = w }) es (record { hashed = (All-head P e es h).hashed; some = p }) (All-tail P e es h)
kept_written state (e ∷ es) (suc i) w h p =
    let P : Entry Words → Type 0 = IsKept state in
    All-cons P e (with_value es i w) (All-head P e es h) (kept_written state es i w (All-tail P e es h) p)

pub length-with_value : (es : List (Entry Words)) (i : ℕ) (w : Words) → length (with_value es i w) ≡ length es
length-with_value [] i w = refl
length-with_value (e ∷ es) zero w = refl
length-with_value (e ∷ es) (suc i) w = ap suc (length-with_value es i w)

-- a write of what stands there changes nothing
pub same_written : (es : List (Entry Words)) (i : ℕ) (v : Words) → slice_get (values_of es) i ≡ Some v → with_value es i v ≡ es
same_written [] i v at = refl
same_written (e ∷ es) zero v at = ap (λ (w : Words). record { hash = e.hash; key = e.key; value = w } ∷ es) (sym (some_same at))
same_written (e ∷ es) (suc i) v at = ap (λ rest. e ∷ rest) (same_written es i v at)

-- what is found at the place of a key
found_at : (es : List (Entry Words)) (i : ℕ) (v : Words) (key : List ℕ) → IsPlace (keys_of es) i key → slice_get (values_of es) i ≡ Some v → found (map key_entry es) key ≡ map position_kept v.items
found_at [] i v key p was = absurd (let l = p.within in omega arith)
found_at (e ∷ es) zero v key p was = rw (flipped_same key e.key p.here) (ap (λ (x : Words). map position_kept x.items) (some_same was))
found_at (e ∷ es) (suc i) v key p was = rw (flipped key e.key (p.before 0 (omega arith))) (found_at es i v key (place_after e es i key p) was)

some_each : (ws : List ℕ) → map (λ y. Some y) (map position_kept ws) ≡ map (λ w. Some (position_kept w)) ws
some_each [] = refl
some_each (w ∷ ws) = ap (λ rest. Some (position_kept w) ∷ rest) (some_each ws)

-- and so its matches
pub matches_at : (es : List (Entry Words)) (i : ℕ) (v : Words) (key : List ℕ) (emit : Bool) → 0 < length v.items → position (bytes_eq key) (map (λ e. e.key) (map key_entry es)) ≡ Some i → slice_get (values_of es) i ≡ Some v
    → matches (map key_entry es) emit (Some key) ≡ map (λ w. Some (position_kept w)) v.items
matches_at es i v key emit h at was = ap (or_null emit) (found_at es i v key (place_of es i key at) was) ∙ some v.items h
  where
    some : (ws : List ℕ) → 0 < length ws → or_null emit (map position_kept ws) ≡ map (λ w. Some (position_kept w)) ws
    some [] p = absurd (omega arith)
    some (w ∷ ws) p = some_each (w ∷ ws)

none_more : (key : List ℕ) (es : List (Entry Words)) → list_any (λ j. bytes_eq j key) (keys_of es) ≡ false → map (mark_entry (only key)) (map key_entry es) ≡ map key_entry es
none_more key [] h = refl
none_more key (e ∷ es) h =
    let both = or_parts (bytes_eq e.key key) (list_any (λ j. bytes_eq j key) (keys_of es)) h in
    ap₂ (λ b r. as_marked (key_entry e) b ∷ r) (ap (λ b. (key_entry e).marked || b) both.0 ∙ or_none (key_entry e).marked) (none_more key es both.1)

-- where keys are distinct, a mark in the words of one key marks that key alone
pub mark_written : (es : List (Entry Words)) (i : ℕ) (v w : Words) (key : List ℕ) → NoRepeat bytes_eq (keys_of es) → IsPlace (keys_of es) i key
    → slice_get (values_of es) i ≡ Some v → map position_kept w.items ≡ map position_kept v.items → has_mark w.items ≡ true
    → map key_entry (with_value es i w) ≡ map (mark_entry (only key)) (map key_entry es)
mark_written [] i v w key once p was same marked = refl
mark_written (e ∷ es) zero v w key once p was same marked =
    let ps : map position_kept w.items ≡ map position_kept e.value.items = same ∙ ap (λ (x : Words). map position_kept x.items) (sym (some_same was)) in
    let is : bytes_eq e.key key ≡ true = flipped_same key e.key p.here in
    let at : e.key ≡ key = (bytes_eq-Decides e.key key).0 is in
    let b : has_mark w.items ≡ (has_mark e.value.items || bytes_eq e.key key) = marked ∙ sym (ap (λ b. has_mark e.value.items || b) is ∙ or_true (has_mark e.value.items)) in
    let rest : map key_entry es ≡ map (mark_entry (only key)) (map key_entry es) = sym (none_more key es (subst (λ (k : List ℕ). list_any (λ j. bytes_eq j k) (keys_of es) ≡ false) at once.0)) in
    (λ j. record { key = e.key; positions = ps j; marked = b j } ∷ rest j)
mark_written (e ∷ es) (suc i) v w key once p was same marked =
    let no : bytes_eq e.key key ≡ false = flipped key e.key (p.before 0 (omega arith)) in
    ap₂ (λ b r. as_marked (key_entry e) b ∷ r) (sym (ap (λ b. (key_entry e).marked || b) no ∙ or_none (key_entry e).marked)) (mark_written es i v w key once.1 (place_after e es i key p) was same marked)

-- nothing is marked by a test that nothing passes
pub none_marked : (es : List KeyEntry) → map (mark_entry (λ _. false)) es ≡ es
none_marked [] = refl
none_marked (e ∷ es) = ap₂ (λ b r. as_marked e b ∷ r) (or_none e.marked) (none_marked es)

marks_twice : (m n : List ℕ → Bool) (es : List KeyEntry) → map (mark_entry n) (map (mark_entry m) es) ≡ map (mark_entry (λ k. m k || n k)) es
marks_twice m n [] = refl
marks_twice m n (e ∷ es) = ap₂ (λ b r. as_marked e b ∷ r) (or_assoc e.marked (m e.key) (n e.key)) (marks_twice m n es)

joins_more : (marks : Bool) (keys : List Key) (idxs : List ℕ) (row : ℕ) (k : List ℕ)
    → ((marks && joins_any (keys_at keys idxs) k) || (marks && is_key k (key_at keys row))) ≡ (marks && joins_any (keys_at keys (idxs ++ row ∷ [])) k)
joins_more false keys idxs row k = refl
joins_more true keys idxs row k =
    ap (λ b. joins_any (keys_at keys idxs) k || b) (sym (or_none (is_key k (key_at keys row))))
    ∙ sym (list_any-append (is_key k) (keys_at keys idxs) (key_at keys row ∷ []))
    ∙ ap (list_any (is_key k)) (sym (map-append (key_at keys) idxs (row ∷ [])))

with_entries : ProbeTable → List KeyEntry → ProbeTable
with_entries t es = record { entries = es; nulls = t.nulls; chunks = t.chunks; state = t.state }

-- one row more marked
pub marks_more : (marks : Bool) (keys : List Key) (idxs : List ℕ) (row : ℕ) (t : ProbeTable)
    → marked_more (λ k. marks && is_key k (key_at keys row)) (with_marks marks keys idxs t) ≡ with_marks marks keys (idxs ++ row ∷ []) t
unfolding with_entries
marks_more marks keys idxs row t =
    ap (with_entries t) (marks_twice (λ k. marks && joins_any (keys_at keys idxs) k) (λ k. marks && is_key k (key_at keys row)) t.entries)
    ∙ (λ j. marked_more (λ k. joins_more marks keys idxs row k j) t)

pub flat_map_push : {X A : Type 0} (f : X → List A) (xs : List X) (x : X) → flat_map f (xs ++ x ∷ []) ≡ flat_map f xs ++ f x
flat_map_push f xs x = flat_map-append f xs (x ∷ []) ∙ ap (λ rest. flat_map f xs ++ rest) (append-nil (f x))

-- one row more answered
pub answered_more : (marks emit : Bool) (old : ProbeTable) (keys : List Key) (idxs : List ℕ) (row : ℕ) (now new : ProbeTable) (ps ps' : List (Option Position)) (is is' : List ℕ)
    → Answered marks emit old keys idxs now ps is
    → ps' ≡ ps ++ matches now.entries emit (key_at keys row)
    → is' ≡ is ++ map (λ _. row) (matches now.entries emit (key_at keys row))
    → new ≡ marked_more (λ k. marks && is_key k (key_at keys row)) now
    → Answered marks emit old keys (idxs ++ row ∷ []) new ps' is'
answered_more marks emit old keys idxs row now new ps ps' is is' a more more_indexes marked =
    let same : matches now.entries emit (key_at keys row) ≡ row_matches old keys emit row = ap (λ (t : ProbeTable). row_matches t keys emit row) a.marks_are ∙ matches_marked marks keys idxs old emit row in
    record {
      positions_are = more ∙ ap₂ (λ (xs ys : List (Option Position)). xs ++ ys) a.positions_are same ∙ sym (flat_map_push (row_matches old keys emit) idxs row);
      indexes_are = more_indexes ∙ ap₂ (λ (xs : List ℕ) (ys : List (Option Position)). xs ++ map (λ _. row) ys) a.indexes_are same ∙ sym (flat_map_push (row_indexes old keys emit) idxs row);
      marks_are = marked ∙ ap (marked_more (λ k. marks && is_key k (key_at keys row))) a.marks_are ∙ marks_more marks keys idxs row old;
    }

-- the same in a loop
pub answered_step : (marks emit : Bool) (old : ProbeTable) (keys : List Key) (idxs : List ℕ) (i row : ℕ) (now new : ProbeTable) (ps ps' : List (Option Position)) (is is' : List ℕ)
    → i < length idxs → row ≡ get_or idxs i 0
    → Answered marks emit old keys (take i idxs) now ps is
    → ps' ≡ ps ++ matches now.entries emit (key_at keys row)
    → is' ≡ is ++ map (λ _. row) (matches now.entries emit (key_at keys row))
    → new ≡ marked_more (λ k. marks && is_key k (key_at keys row)) now
    → Answered marks emit old keys (take (i + 1) idxs) new ps' is'
answered_step marks emit old keys idxs i row now new ps ps' is is' h at a more more_indexes marked =
    let e : take i idxs ++ row ∷ [] ≡ take (i + 1) idxs = ap (λ (r : ℕ). take i idxs ++ r ∷ []) at ∙ sym (take_more idxs i 0 h) in
    subst (λ (rows : List ℕ). Answered marks emit old keys rows new ps' is') e (answered_more marks emit old keys (take i idxs) row now new ps ps' is is' a more more_indexes marked)

-- a key that is present is one search more
pub searches_push : (keys : List Key) (key : Key) → searches (keys ++ key ∷ []) ≡ searches keys + cond (is_some key) 1 0
searches_push keys key = fold_push (λ a k. a + cond (is_some k) 1 0) 0 keys key

pub searches_step : (keys : List Key) (idxs : List ℕ) (i row : ℕ) → i < length idxs → row ≡ get_or idxs i 0
    → searches (keys_at keys (take (i + 1) idxs)) ≡ searches (keys_at keys (take i idxs)) + cond (is_some (key_at keys row)) 1 0
searches_step keys idxs i row h at =
    ap (λ rows. searches (keys_at keys rows)) (take_more idxs i 0 h ∙ ap (λ (r : ℕ). take i idxs ++ r ∷ []) (sym at))
    ∙ ap searches (map-append (key_at keys) (take i idxs) (row ∷ []))
    ∙ searches_push (keys_at keys (take i idxs)) (key_at keys row)

-- a key that is lent
pub hashed_same : (state : PlRandomState) (hash : ℕ) (key : Option (Bor (List ℕ))) (o : Key) → option_copied key ≡ o → IfSome o (λ k. hash ≡ hash_of state k) → IfSome key (λ k. hash ≡ hash_of state k.now)
hashed_same state hash None o e h = tt
hashed_same state hash (Some b) o e h = let P : Key → Type 0 = λ q. IfSome q (λ k. hash ≡ hash_of state k) in subst P (sym e) h

pub some_copied : (key : Option (Bor (List ℕ))) → is_some (option_copied key) ≡ is_some key
some_copied None = refl
some_copied (Some b) = refl

-- what is said of each row that is asked for
pub length-seen : {X Y : Type 0} (f : X → Y) (xs : List X) (ys : List Y) → map f xs ≡ ys → length xs ≡ length ys
length-seen f xs ys e = sym (length-map xs f) ∙ ap length e

-- what is kept of an entry, at an index
pub marked_at : (es : List (Entry Words)) (i : ℕ) (v : Words) → slice_get (values_of es) i ≡ Some v → slice_get (map (λ e. e.marked) (map key_entry es)) i ≡ Some (has_mark v.items)
marked_at [] i v at = absurd (let no : None ≡ Some v = at in cc)
marked_at (e ∷ es) zero v at = ap (λ (w : Words). Some (has_mark w.items)) (some_same at)
marked_at (e ∷ es) (suc i) v at = marked_at es i v at

pub positions_at : (es : List (Entry Words)) (i : ℕ) (v : Words) → slice_get (values_of es) i ≡ Some v → slice_get (map (λ e. e.positions) (map key_entry es)) i ≡ Some (map position_kept v.items)
positions_at [] i v at = absurd (let no : None ≡ Some v = at in cc)
positions_at (e ∷ es) zero v at = ap (λ (w : Words). Some (map position_kept w.items)) (some_same at)
positions_at (e ∷ es) (suc i) v at = positions_at es i v at

-- each key has a position
pub have_positions : (state : PlRandomState) (es : List (Entry Words)) → All (IsKept state) es → All (λ e. 0 < length e.positions) (map key_entry es)
have_positions state es kept =
    let P : KeyEntry → Type 0 = λ e. 0 < length e.positions in
    let Q : Entry Words → Type 0 = λ e. P (key_entry e) in
    All-map P key_entry es (All-weaker (IsKept state) Q (λ e k. rw (length-map e.value.items position_kept) k.some) es kept)

-- a key that is null, or absent, or not to be marked leaves all as it is
pub nothing_marked : (t : ProbeTable) → marked_more (λ _. false) t ≡ t
unfolding with_entries
nothing_marked t = ap (with_entries t) (none_marked t.entries)

pub null_unmarked : (marks : Bool) (t : ProbeTable) → t ≡ marked_more (λ k. marks && is_key k None) t
null_unmarked true t = sym (nothing_marked t)
null_unmarked false t = sym (nothing_marked t)

pub absent_unmarked : (marks : Bool) (key : List ℕ) (t : ProbeTable) → marked_more (only key) t ≡ t → t ≡ marked_more (λ k. marks && is_key k (Some key)) t
absent_unmarked true key t h = sym h
absent_unmarked false key t h = sym (nothing_marked t)

-- the rows that are asked for where there is no subset
range_from : (a n i : ℕ) → i < n → get_or (range_with_len a n) i 0 ≡ a + i
range_from a zero i h = absurd (omega arith)
range_from a (suc n) zero h = let e : a ≡ a + 0 = omega arith in e
range_from a (suc n) (suc i) h = range_from (a + 1) n i (omega arith) ∙ (let e : a + 1 + i ≡ a + suc i = omega arith in e)

pub all_at : (subset : Option (Bor (List ℕ))) (keys : List Key) (i : ℕ) → subset ≡ None → i < length (asked_rows keys (option_copied subset)) → i ≡ get_or (asked_rows keys (option_copied subset)) i 0
all_at None keys i none h = sym (range_from 0 (length keys) i (omega (arith, length-range_with_len 0 (length keys))) ∙ (let e : 0 + i ≡ i = omega arith in e))
all_at (Some b) keys i none h = absurd (let no : Some b ≡ None = none in cc)

pub all_counted : (subset : Option (Bor (List ℕ))) (keys : List Key) → subset ≡ None → length (asked_rows keys (option_copied subset)) ≡ length keys
all_counted None keys none = length-range_with_len 0 (length keys)
all_counted (Some b) keys none = absurd (let no : Some b ≡ None = none in cc)

-- all rows are rows
pub all_inside : (keys : List Key) → All (λ i. i < length keys) (all_rows keys)
all_inside keys =
    let P : ℕ → Type 0 = λ i. i < length keys in
    let long = length-range_with_len 0 (length keys) in
    All-from_get_or P (all_rows keys) 0 (λ i h. let l : i < length keys = omega (arith, long) in rw (range_from 0 (length keys) i l) (omega arith))

pub some_map : {X Y : Type 0} (f : X → Y) (xs : List X) → map (λ x. Some (f x)) xs ≡ map (λ y. Some y) (map f xs)
some_map f [] = refl
some_map f (x ∷ xs) = ap (λ rest. Some (f x) ∷ rest) (some_map f xs)

-- the null positions as they are kept
pub nulls_seen : (ids : List ChunkId) → map id_position ids ≡ map (λ id. Some (position_at id)) ids → map id_position ids ≡ map (λ x. Some x) (map position_at ids)
nulls_seen ids h = h ∙ some_map position_at ids

-- one position more
pub nulls_kept : (ids : List ChunkId) (id : ChunkId) (x : Position) → map id_position ids ≡ map (λ id. Some (position_at id)) ids → id_position id ≡ Some x → map id_position (ids ++ id ∷ []) ≡ map (λ id. Some (position_at id)) (ids ++ id ∷ [])
nulls_kept ids id x h at =
    let here : id_position id ≡ Some (position_at id) = at ∙ ap (λ (o : Option Position). Some (unwrap_or o first_position)) (sym at) in
    map-append id_position ids (id ∷ []) ∙ ap₂ (λ (ps qs : List (Option Position)). ps ++ qs) h (ap (λ (o : Option Position). o ∷ []) here) ∙ sym (map-append (λ id. Some (position_at id)) ids (id ∷ []))

pub null_pushed : (ids : List ChunkId) (id : ChunkId) (x : Position) → id_position id ≡ Some x → map position_at (ids ++ id ∷ []) ≡ map position_at ids ++ x ∷ []
null_pushed ids id x at = map-append position_at ids (id ∷ []) ∙ ap (λ (o : Option Position). map position_at ids ++ unwrap_or o first_position ∷ []) at

-- steps of searches, as rows are answered
pub probe_cost_step : (keys : List Key) (idxs : List ℕ) (i row : ℕ) (key : Option (Bor (List ℕ))) (start now new : ℕ) → i < length idxs → row ≡ get_or idxs i 0 → option_copied key ≡ key_at keys row
    → now ≡ start + searches (keys_at keys (take i idxs)) → new ≡ now + cond (is_some key) 1 0 → new ≡ start + searches (keys_at keys (take (i + 1) idxs))
probe_cost_step keys idxs i row key start now new h at is before after =
    let same : is_some key ≡ is_some (key_at keys row) = sym (some_copied key) ∙ ap is_some is in
    let step = searches_step keys idxs i row h at in
    let more = rw same at after in
    omega (arith, before, more, step)

-- a row that is asked for is a row
pub row_inside : (keys : List Key) (idxs : List ℕ) (i row : ℕ) → All (λ j. j < length keys) idxs → i < length idxs → row ≡ get_or idxs i 0 → row < length keys
row_inside keys idxs i row inside h at =
    let P : ℕ → Type 0 = λ j. j < length keys in
    let l : get_or idxs i 0 < length keys = All-get_or P idxs i 0 h inside in
    omega (arith, l, at)

-- a place in a subset
pub place_inside : (subset : Option (Bor (List ℕ))) (keys : List Key) (i : ℕ) → i < length (asked_rows keys (option_copied subset)) → IfSome subset (λ rows. i < length rows.now)
place_inside None keys i h = tt
place_inside (Some b) keys i h = h

-- a turn of the loop that answers: the row's key is lent
pub answered_turn : (marks emit : Bool) (old : ProbeTable) (keys : List Key) (idxs : List ℕ) (i row : ℕ) (key : Key) (now new : ProbeTable) (ps ps' : List (Option Position)) (is is' : List ℕ)
    → i < length idxs → row ≡ get_or idxs i 0 → key ≡ key_at keys row
    → Answered marks emit old keys (take i idxs) now ps is
    → ps' ≡ ps ++ matches now.entries emit key
    → is' ≡ is ++ map (λ _. row) (matches now.entries emit key)
    → new ≡ marked_more (λ k. marks && is_key k key) now
    → Answered marks emit old keys (take (i + 1) idxs) new ps' is'
answered_turn marks emit old keys idxs i row key now new ps ps' is is' h at lent a more more_indexes marked =
    answered_step marks emit old keys idxs i row now new ps ps' is is' h at a
    (more ∙ ap (λ (k : Key). ps ++ matches now.entries emit k) lent)
    (more_indexes ∙ ap (λ (k : Key). is ++ map (λ _. row) (matches now.entries emit k)) lent)
    (marked ∙ ap (λ (q : Key). marked_more (λ k. marks && is_key k q) now) lent)

-- what is as it was is answered as it was
pub answered_same : (marks emit : Bool) (old : ProbeTable) (keys : List Key) (idxs : List ℕ) (now new : ProbeTable) (ps ps' : List (Option Position)) (is is' : List ℕ)
    → Answered marks emit old keys idxs now ps is → ps' ≡ ps → is' ≡ is → new ≡ now → Answered marks emit old keys idxs new ps' is'
answered_same marks emit old keys idxs now new ps ps' is is' a p q r = record { positions_are = p ∙ a.positions_are; indexes_are = q ∙ a.indexes_are; marks_are = r ∙ a.marks_are }

-- no row is answered yet
pub answered_none : (marks emit : Bool) (t : ProbeTable) (keys : List Key) (ps : List (Option Position)) (is : List ℕ) → ps ≡ [] → is ≡ [] → Answered marks emit t keys [] t ps is
answered_none marks emit t keys ps is p q = record { positions_are = p; indexes_are = q; marks_are = null_unmarked marks t }
