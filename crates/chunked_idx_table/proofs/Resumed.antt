-- Calls that go on where the ones before stopped reply to all.
use Rattle.std.proofs.Common.{◌≡◌, ℕ, zero, suc, ◌+◌, ◌-◌, ◌<◌, ◌≤◌, ◌⊎◌, Bool, true, false, not, ◌||◌, cond, List, [], ◌∷◌, ◌++◌, map, filter, length, take, drop, Option, Some, None, bytes_eq, refl, sym, ap, ap₂, subst, ◌∙◌, inl, inr, append-nil, append_assoc, arith}
use Rattle.std.specs.List.{flat_map, list_any}
use Rattle.std.proofs.lemmas.Bool.{cases_Bool, or_parts}
use Rattle.std.proofs.lemmas.List.{length-append, length-drop, take-append-drop}
use Rattle.std.proofs.lemmas.List.Concat.{flat_map-append}
use Rattle.key_parts.specs.Positions.{Position}
use Rattle.hash_keys.specs.Keys.{Key, key_at}
use Rattle.list_laws.specs.Distinct.{NoRepeat}
use Rattle.chunked_idx_table.specs.Replies.{processed, replied}
use Rattle.chunked_idx_table.specs.Tables.{KeyEntry, ProbeTable}
use Rattle.chunked_idx_table.specs.Probes.{found, found_key, or_null, mark_entry, matches, row_matches, with_marks, joins_any, keys_at, items, all_rows}
use Rattle.chunked_idx_table.specs.Resumed.{ProbeCall, row_pairs, probed, probe_replies, rows_left, listed, unmarked_replies, offset_after, unmarked_positions, all_positions, position_eq, StandOnce}
use Rattle.chunked_idx_table.proofs.Replies.{some_taken, none_taken}

-- marks change no positions
found_marked : (more : List ℕ → Bool) (es : List KeyEntry) (key : List ℕ) → found (map (mark_entry more) es) key ≡ found es key
found_marked more [] key = refl
found_marked more (e ∷ es) key = ap (cond (bytes_eq e.key key) e.positions) (found_marked more es key)

found_key_marked : (more : List ℕ → Bool) (es : List KeyEntry) (key : Key) → found_key (map (mark_entry more) es) key ≡ found_key es key
found_key_marked more es None = refl
found_key_marked more es (Some key) = found_marked more es key

-- so a row has the same matches whatever is marked
pub matches_marked : (marks : Bool) (keys : List Key) (idxs : List ℕ) (t : ProbeTable) (emit : Bool) (i : ℕ) → row_matches (with_marks marks keys idxs t) keys emit i ≡ row_matches t keys emit i
matches_marked marks keys idxs t emit i = ap (or_null emit) (found_key_marked _ t.entries (key_at keys i))

pairs_marked : (marks : Bool) (keys : List Key) (idxs : List ℕ) (t : ProbeTable) (emit : Bool) → row_pairs (with_marks marks keys idxs t) keys emit ≡ row_pairs t keys emit
pairs_marked marks keys idxs t emit = λ j i. map (λ m. (i, m)) (matches_marked marks keys idxs t emit i j)

-- probes one after the other, and the matches of the rows that they leave, are the matches of all
pub probes_resumed : (keys : List Key) (emit : Bool) (calls : List ProbeCall) (t : ProbeTable) (idxs : List ℕ)
    → probe_replies keys emit calls t idxs ++ flat_map (row_pairs t keys emit) (rows_left keys emit calls t idxs) ≡ flat_map (row_pairs t keys emit) idxs
probes_resumed keys emit [] t idxs = refl
probes_resumed keys emit (call ∷ calls) t idxs =
    let n = probed t keys emit call.limit idxs in
    let f = row_pairs t keys emit in
    let marked = with_marks call.marks keys (take n idxs) t in
    let same = pairs_marked call.marks keys (take n idxs) t emit in
    let rest = rows_left keys emit calls marked (drop n idxs) in
    append_assoc (flat_map f (take n idxs)) (probe_replies keys emit calls marked (drop n idxs)) (flat_map f rest)
    ∙ ap (λ g. flat_map f (take n idxs) ++ (probe_replies keys emit calls marked (drop n idxs) ++ flat_map g rest)) (sym same)
    ∙ ap (λ xs. flat_map f (take n idxs) ++ xs) (probes_resumed keys emit calls marked (drop n idxs))
    ∙ ap (λ g. flat_map f (take n idxs) ++ flat_map g (drop n idxs)) same
    ∙ sym (flat_map-append f (take n idxs) (drop n idxs))
    ∙ ap (flat_map f) (take-append-drop n idxs)

-- each probe leaves one row less at least
rows_fewer : (keys : List Key) (emit : Bool) (calls : List ProbeCall) (t : ProbeTable) (idxs : List ℕ) → length (rows_left keys emit calls t idxs) ≤ length idxs - length calls
rows_fewer keys emit [] t idxs = omega arith
rows_fewer keys emit (call ∷ calls) t [] = omega (arith, rows_fewer keys emit calls (with_marks call.marks keys [] t) [])
rows_fewer keys emit (call ∷ calls) t (i ∷ idxs) =
    let n = probed t keys emit call.limit (i ∷ idxs) in
    let some = some_taken (row_matches t keys emit) call.limit i idxs in
    omega (arith, some, length-drop n (i ∷ idxs), rows_fewer keys emit calls (with_marks call.marks keys (take n (i ∷ idxs)) t) (drop n (i ∷ idxs)))

none_long : {X : Type 0} (xs : List X) → length xs ≤ 0 → xs ≡ []
none_long [] h = refl
none_long (x ∷ xs) h = absurd (omega arith)

-- so that as many probes as rows leave none
pub probes_end : (keys : List Key) (emit : Bool) (calls : List ProbeCall) (t : ProbeTable) (idxs : List ℕ) → length idxs ≤ length calls → rows_left keys emit calls t idxs ≡ []
probes_end keys emit calls t idxs h = none_long _ (omega (arith, rows_fewer keys emit calls t idxs))

-- where none is left, the replies are the matches of all
pub probes_whole : (keys : List Key) (emit : Bool) (calls : List ProbeCall) (t : ProbeTable) (idxs : List ℕ) → rows_left keys emit calls t idxs ≡ [] → probe_replies keys emit calls t idxs ≡ flat_map (row_pairs t keys emit) idxs
probes_whole keys emit calls t idxs none =
    sym (append-nil (probe_replies keys emit calls t idxs))
    ∙ ap (λ rows. probe_replies keys emit calls t idxs ++ flat_map (row_pairs t keys emit) rows) (sym none)
    ∙ probes_resumed keys emit calls t idxs

-- what the items from an offset on give
abbrev from_offset : ProbeTable → ℕ → List Position
from_offset t offset = flat_map (λ x. x) (drop offset (items t))

drop_none : {X : Type 0} (n : ℕ) → drop {A = X} n [] ≡ []
drop_none zero = refl
drop_none (suc n) = refl

drop_twice : {X : Type 0} (m n : ℕ) (xs : List X) → drop (m + n) xs ≡ drop n (drop m xs)
drop_twice zero n xs = ap (λ k. drop k xs) (let e : 0 + n ≡ n = omega arith in e)
drop_twice (suc m) n [] = drop_none (suc m + n) ∙ sym (drop_none n)
drop_twice (suc m) n (x ∷ xs) = ap (λ k. drop k (x ∷ xs)) (let e : suc m + n ≡ suc (m + n) = omega arith in e) ∙ drop_twice m n xs

pub unmarked_resumed : (t : ProbeTable) (limits : List ℕ) (offset : ℕ) → unmarked_replies t limits offset ++ from_offset t (offset_after t limits offset) ≡ from_offset t offset
unmarked_resumed t [] offset = refl
unmarked_resumed t (limit ∷ limits) offset =
    let f : List Position → List Position = λ x. x in
    let n = listed t limit offset in
    let xs = drop offset (items t) in
    append_assoc (flat_map f (take n xs)) (unmarked_replies t limits (offset + n)) (from_offset t (offset_after t limits (offset + n)))
    ∙ ap (λ rest. flat_map f (take n xs) ++ rest) (unmarked_resumed t limits (offset + n) ∙ ap (flat_map f) (drop_twice offset n (items t)))
    ∙ sym (flat_map-append f (take n xs) (drop n xs))
    ∙ ap (flat_map f) (take-append-drop n xs)

nulls_alone : (xs : List Position) → flat_map (λ x. x) (map (λ x. x ∷ []) xs) ≡ xs
nulls_alone [] = refl
nulls_alone (x ∷ xs) = ap (λ rest. x ∷ rest) (nulls_alone xs)

unmarked_alone : (es : List KeyEntry) → flat_map (λ x. x) (map (λ e. cond e.marked [] e.positions) es) ≡ flat_map (λ e. e.positions) (filter (λ e. not e.marked) es)
unmarked_alone [] = refl
unmarked_alone (e ∷ es) = elim (cases_Bool e.marked) [
  | inl marked ↦ rw marked (unmarked_alone es)
  | inr unmarked ↦ rw unmarked (ap (λ rest. e.positions ++ rest) (unmarked_alone es))
]

-- all items give the null positions and all positions of the unmarked keys
pub items_whole : (t : ProbeTable) → from_offset t 0 ≡ unmarked_positions t
items_whole t =
    flat_map-append (λ x. x) (map (λ x. x ∷ []) t.nulls) (map (λ e. cond e.marked [] e.positions) t.entries)
    ∙ ap₂ (λ (xs ys : List Position). xs ++ ys) (nulls_alone t.nulls) (unmarked_alone t.entries)

-- where the next call answers 0, the replies are those
pub unmarked_whole : (t : ProbeTable) (limits : List ℕ) (limit : ℕ) → listed t limit (offset_after t limits 0) ≡ 0 → unmarked_replies t limits 0 ≡ unmarked_positions t
unmarked_whole t limits limit none =
    let f : List Position → List Position = λ x. x in
    sym (append-nil (unmarked_replies t limits 0))
    ∙ ap (λ xs. unmarked_replies t limits 0 ++ flat_map f xs) (sym (none_taken f limit (drop (offset_after t limits 0) (items t)) none))
    ∙ unmarked_resumed t limits 0
    ∙ items_whole t

some_listed : (limit : ℕ) (xs : List (List Position)) → (length xs ≤ 0) ⊎ (0 < processed (λ x. x) limit xs)
some_listed limit [] = inl (omega arith)
some_listed limit (x ∷ xs) = inr (some_taken (λ x. x) limit x xs)

items_fewer : (t : ProbeTable) (limits : List ℕ) (offset : ℕ) → length (items t) - offset_after t limits offset ≤ length (items t) - offset - length limits
items_fewer t [] offset = omega arith
items_fewer t (limit ∷ limits) offset =
    let n = listed t limit offset in
    let rest = items_fewer t limits (offset + n) in
    let long = length-drop offset (items t) in
    elim (some_listed limit (drop offset (items t))) [
      | inl none ↦ omega (arith, rest, long, none)
      | inr some ↦ omega (arith, rest, long, some)
    ]

none_listed : (t : ProbeTable) (limit offset : ℕ) → length (items t) ≤ offset → listed t limit offset ≡ 0
none_listed t limit offset h = ap (processed (λ x. x) limit) (none_long (drop offset (items t)) (omega (arith, length-drop offset (items t))))

-- after as many calls as there are items the next answers 0
pub unmarked_end : (t : ProbeTable) (limits : List ℕ) (limit : ℕ) → length (items t) ≤ length limits → listed t limit (offset_after t limits 0) ≡ 0
unmarked_end t limits limit h = none_listed t limit (offset_after t limits 0) (omega (arith, items_fewer t limits 0))

module _ {X : Type 0} (E : X → X → Bool) where
  any_middle : (q : X → Bool) (xs ys zs : List X) → list_any q (xs ++ (ys ++ zs)) ≡ false → list_any q (xs ++ zs) ≡ false
  any_middle q [] [] zs h = h
  any_middle q [] (y ∷ ys) zs h = any_middle q [] ys zs (or_parts (q y) (list_any q (ys ++ zs)) h).1
  any_middle q (x ∷ xs) ys zs h =
      let both = or_parts (q x) (list_any q (xs ++ (ys ++ zs))) h in
      rw both.0 (any_middle q xs ys zs both.1)

  once_middle : (xs ys zs : List X) → NoRepeat E (xs ++ (ys ++ zs)) → NoRepeat E (xs ++ zs)
  once_middle [] [] zs h = h
  once_middle [] (y ∷ ys) zs h = once_middle [] ys zs h.1
  once_middle (x ∷ xs) ys zs h = (any_middle (λ s. E s x) xs ys zs h.0, once_middle xs ys zs h.1)

  -- what stands once goes on to, where some of the pieces are left out
  once_fewer : {Y : Type 0} (p : Y → List X) (q : Y → Bool) (es : List Y) (xs : List X) → NoRepeat E (xs ++ flat_map p es) → NoRepeat E (xs ++ flat_map p (filter q es))
  once_fewer p q [] xs h = h
  once_fewer p q (e ∷ es) xs h = elim (cases_Bool (q e)) [
    | inl kept ↦ rw kept (subst (NoRepeat E) (append_assoc xs (p e) (flat_map p (filter q es))) (once_fewer p q es (xs ++ p e) (subst (NoRepeat E) (sym (append_assoc xs (p e) (flat_map p es))) h)))
    | inr left_out ↦ rw left_out (once_fewer p q es xs (once_middle xs (p e) (flat_map p es) h))
  ]

-- each once, where no position stands twice in the table
pub unmarked_once : (t : ProbeTable) → StandOnce (all_positions t) → StandOnce (unmarked_positions t)
unmarked_once t h = once_fewer position_eq (λ e. e.positions) (λ e. not e.marked) t.entries t.nulls h
