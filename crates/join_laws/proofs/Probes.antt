-- Replies of a table as pairs, and marks.
use Rattle.std.proofs.Common.{◌≡◌, ℕ, zero, suc, ◌+◌, ◌-◌, ◌<◌, ◌≤◌, eqb, nat_le, Bool, true, false, not, ◌||◌, cond, List, [], ◌∷◌, ◌++◌, map, filter, flat_map, fold, length, get_or, take, drop, refl, sym, ap, ap₂, ◌∙◌, subst, inl, inr, append-nil, append_assoc, arith, Option, Some, None, option_map, bytes_eq}
use Rattle.std.specs.List.{list_any, range_with_len, All, zip}
use Rattle.std.proofs.lemmas.Bool.{cases_lt, cases_Bool}
use Rattle.std.proofs.lemmas.List.{length-append, length-map, map-append, take-append-drop}
use Rattle.std.proofs.lemmas.List.Concat.{flat_map-append}
use Rattle.std.proofs.lemmas.List.Elements.{All-nil, All-cons}
use Rattle.std.proofs.Math.Seq.{take-add}
use mathlib.Core.List.{map-map}
use Rattle.chunked_idx_table.proofs.Replies.{some_taken}
use Rattle.chunked_idx_table.specs.Probes.{is_key as is_joined, found, found_key, joins_any, keys_at, mark_entry, marked_more, matches, or_null}
use Rattle.chunked_idx_table.specs.Replies.{processed}
use Rattle.chunked_idx_table.specs.Tables.{KeyEntry, ProbeTable}
use Rattle.hash_keys.specs.Keys.{Key}
use Rattle.join_laws.specs.Deals.{keys_join}
use Rattle.join_laws.specs.declared.Pair.{Pair}
use Rattle.join_laws.specs.Partitions.{FitsPlaces, InPlaces, TableFits, part_pairs, reply_pairs, row_of, row_pairs}
use Rattle.col_core.specs.declared.row_place.RowPlace.{RowPlace}
use Rattle.key_parts.specs.Positions.{Position}
use Rattle.key_parts.specs.declared.hash.PlRandomState.{PlRandomState}
use Rattle.list_laws.proofs.Each.{Each-append, Each-weaker}
use Rattle.list_laws.proofs.Halves.{or_assoc, or_none}
use Rattle.list_laws.proofs.Keys.{list_any-append}
use Rattle.list_laws.proofs.Lists.{map_same}
use Rattle.list_laws.proofs.Maps.{flat_map_agree}
use Rattle.list_laws.specs.Each.{Each}

pub All-from_Each : {X : Type 0} (P : X → Type 0) (xs : List X) → Each P xs → All P xs
All-from_Each P [] h = All-nil P
All-from_Each P (x ∷ xs) h = All-cons P x xs h.0 (All-from_Each P xs h.1)

zip_more : {A B : Type 0} (xs : List A) (ys : List B) (i : ℕ) (d : A) (e : B) → i < length xs → i < length ys → zip (take (i + 1) xs) (take (i + 1) ys) ≡ zip (take i xs) (take i ys) ++ (get_or xs i d, get_or ys i e) ∷ []
zip_more [] ys i d e h k = absurd (omega arith)
zip_more (x ∷ xs) [] i d e h k = absurd (omega arith)
zip_more (x ∷ xs) (y ∷ ys) zero d e h k = refl
zip_more (x ∷ xs) (y ∷ ys) (suc i) d e h k =
    let s : suc i + 1 ≡ suc (i + 1) = omega arith in
    ap (λ n. zip (take n (x ∷ xs)) (take n (y ∷ ys))) s ∙ ap (λ t. (x, y) ∷ t) (zip_more xs ys i d e (omega arith) (omega arith))

abbrev pub reply_pair : List (List (List ℕ)) → ℕ → Option Position × ℕ → Pair
reply_pair places p e = record { probe = Some e.1; build = option_map (row_of places p) e.0 }

pub reply_more : (places : List (List (List ℕ))) (p : ℕ) (ms : List (Option Position)) (rows : List ℕ) (i : ℕ) → i < length ms → i < length rows → reply_pairs places p (take (i + 1) ms) (take (i + 1) rows) ≡ reply_pairs places p (take i ms) (take i rows) ++ reply_pair places p (get_or ms i None, get_or rows i 0) ∷ []
reply_more places p ms rows i h k = ap (map (reply_pair places p)) (zip_more ms rows i None 0 h k) ∙ map-append (reply_pair places p) (zip (take i ms) (take i rows)) ((get_or ms i None, get_or rows i 0) ∷ [])

zip_append : {A B : Type 0} (a b : List A) (c d : List B) → length a ≡ length c → zip (a ++ b) (c ++ d) ≡ zip a c ++ zip b d
zip_append [] b [] d h = refl
zip_append [] b (y ∷ c) d h = absurd (omega arith)
zip_append (x ∷ a) b [] d h = absurd (omega arith)
zip_append (x ∷ a) b (y ∷ c) d h = ap (λ t. (x, y) ∷ t) (zip_append a b c d (omega arith))

module _ (places : List (List (List ℕ))) (p : ℕ) (f : ℕ → List (Option Position)) where
  one_row : (i : ℕ) (ms : List (Option Position)) → reply_pairs places p ms (map (λ _. i) ms) ≡ row_pairs places p i ms
  one_row i [] = refl
  one_row i (m ∷ ms) = ap (λ t. reply_pair places p (m, i) ∷ t) (one_row i ms)

  -- the replies for some rows, beside their rows, are the pairs of the rows
  pub reply_is : (qs : List ℕ) → reply_pairs places p (flat_map f qs) (flat_map (λ i. map (λ _. i) (f i)) qs) ≡ flat_map (λ i. row_pairs places p i (f i)) qs
  reply_is [] = refl
  reply_is (q ∷ qs) =
      ap (map (reply_pair places p)) (zip_append (f q) (flat_map f qs) (map (λ _. q) (f q)) (flat_map (λ i. map (λ _. i) (f i)) qs) (sym (length-map (f q) (λ _. q))))
      ∙ map-append (reply_pair places p) (zip (f q) (map (λ _. q) (f q))) (zip (flat_map f qs) (flat_map (λ i. map (λ _. i) (f i)) qs))
      ∙ ap₂ (λ a b. a ++ b) (one_row q (f q)) (reply_is qs)

  pub reply_long : (qs : List ℕ) → length (flat_map f qs) ≡ length (flat_map (λ i. map (λ _. i) (f i)) qs)
  reply_long [] = refl
  reply_long (q ∷ qs) = omega (arith, length-append (f q) (flat_map f qs), length-append (map (λ _. q) (f q)) (flat_map (λ i. map (λ _. i) (f i)) qs), length-map (f q) (λ _. q), reply_long qs)

  pub pairs_long : (qs : List ℕ) → length (flat_map (λ i. row_pairs places p i (f i)) qs) ≡ length (flat_map f qs)
  pairs_long [] = refl
  pairs_long (q ∷ qs) = omega (arith, length-append (f q) (flat_map f qs), length-append (row_pairs places p q (f q)) (flat_map (λ i. row_pairs places p i (f i)) qs), length-map {B = Pair} (f q) (λ m. record { probe = Some q; build = option_map (row_of places p) m }), pairs_long qs)

-- how many a limit lets through
pub processed_some : {Q A : Type 0} (f : Q → List A) (limit : ℕ) (qs : List Q) → 0 < length qs → 0 < processed f limit qs
processed_some f limit [] h = absurd (omega arith)
processed_some f limit (q ∷ qs) h = some_taken f limit q qs

pub processed_front : {Q A : Type 0} (f : Q → List A) (limit : ℕ) (qs : List Q) → processed f limit qs ≤ length qs
processed_front f limit [] = omega arith
processed_front f limit (q ∷ qs) =
    let rest = processed_front f (limit - length (f q)) qs in
    elim (nat_le limit (length (f q))) as (λ v. cond v 1 (suc (processed f (limit - length (f q)) qs)) ≤ suc (length qs)) [ true ↦ omega arith | false ↦ omega arith ]

-- what fits
module _ (places : List (List (List ℕ))) (p : ℕ) where
  found_fits : (es : List KeyEntry) (k : List ℕ) → Each (λ s. Each (InPlaces places p) s.positions) es → Each (InPlaces places p) (found es k)
  found_fits [] k h = tt
  found_fits (s ∷ es) k h = elim (bytes_eq s.key k) as (λ v. Each (InPlaces places p) (cond v s.positions (found es k))) [ true ↦ h.0 | false ↦ found_fits es k h.1 ]

  somes_fit : (xs : List Position) → Each (InPlaces places p) xs → Each (FitsPlaces places p) (map (λ y. Some y) xs)
  somes_fit [] h = tt
  somes_fit (x ∷ xs) h = (h.0, somes_fit xs h.1)

  or_null_fits : (emit : Bool) (xs : List Position) → Each (InPlaces places p) xs → Each (FitsPlaces places p) (or_null emit xs)
  or_null_fits true [] h = (tt, tt)
  or_null_fits false [] h = tt
  or_null_fits emit (x ∷ xs) h = (h.0, somes_fit xs h.1)

  matches_fit : (t : ProbeTable) (emit : Bool) (o : Key) → TableFits places p t → Each (FitsPlaces places p) (matches t.entries emit o)
  matches_fit t emit None h = or_null_fits emit [] tt
  matches_fit t emit (Some k) h = or_null_fits emit (found t.entries k) (found_fits t.entries k h.entries_fit)

  -- each match of some rows has a build row, if it is one
  pub replies_fit : (t : ProbeTable) (emit : Bool) (keys : List Key) (qs : List ℕ) → TableFits places p t → All (FitsPlaces places p) (flat_map (λ i. matches t.entries emit (get_or keys i None)) qs)
  replies_fit t emit keys qs h = All-from_Each (FitsPlaces places p) (flat_map (λ i. matches t.entries emit (get_or keys i None)) qs) (go qs)
    where
      go : (qs : List ℕ) → Each (FitsPlaces places p) (flat_map (λ i. matches t.entries emit (get_or keys i None)) qs)
      go [] = tt
      go (q ∷ qs) = Each-append (FitsPlaces places p) (matches t.entries emit (get_or keys q None)) (flat_map (λ i. matches t.entries emit (get_or keys i None)) qs) (matches_fit t emit (get_or keys q None) h) (go qs)

  pub fits_marked : (more : List ℕ → Bool) (t : ProbeTable) → TableFits places p t → TableFits places p (marked_more more t)
  fits_marked more t h = record { entries_fit = go t.entries h.entries_fit; nulls_fit = h.nulls_fit }
    where
      go : (es : List KeyEntry) → Each (λ s. Each (InPlaces places p) s.positions) es → Each (λ s. Each (InPlaces places p) s.positions) (map (mark_entry more) es)
      go [] e = tt
      go (s ∷ es) e = (e.0, go es e.1)

-- marks are not seen by matches
pub found_marked : (more : List ℕ → Bool) (es : List KeyEntry) (k : List ℕ) → found (map (mark_entry more) es) k ≡ found es k
found_marked more [] k = refl
found_marked more (s ∷ es) k = ap (cond (bytes_eq s.key k) s.positions) (found_marked more es k)

pub matches_marked : (more : List ℕ → Bool) (t : ProbeTable) (emit : Bool) (o : Key) → matches (marked_more more t).entries emit o ≡ matches t.entries emit o
matches_marked more t emit None = refl
matches_marked more t emit (Some k) = ap (or_null emit) (found_marked more t.entries k)

pub part_pairs_marked : (places : List (List (List ℕ))) (keep : Bool) (keys : List Key) (more : List ℕ → Bool) (t : ProbeTable) (p : ℕ) (rows : List ℕ) → part_pairs places keep keys (marked_more more t) p rows ≡ part_pairs places keep keys t p rows
part_pairs_marked places keep keys more t p rows = flat_map_agree _ _ (λ i. ap (row_pairs places p i) (matches_marked more t keep (get_or keys i None))) rows

abbrev with_entries : ProbeTable → List KeyEntry → ProbeTable
with_entries t es = record { entries = es; nulls = t.nulls; chunks = t.chunks; state = t.state }

abbrev slot_marked : KeyEntry → Bool → KeyEntry
slot_marked s b = record { key = s.key; positions = s.positions; marked = b }

pub marked_same : (m m' : List ℕ → Bool) (t : ProbeTable) → ((k : List ℕ) → m k ≡ m' k) → marked_more m t ≡ marked_more m' t
marked_same m m' t h = ap (with_entries t) (go t.entries)
  where
    go : (es : List KeyEntry) → map (mark_entry m) es ≡ map (mark_entry m') es
    go [] = refl
    go (s ∷ es) = ap₂ (λ b r. slot_marked s (s.marked || b) ∷ r) (h s.key) (go es)

pub marked_none : (m : List ℕ → Bool) (t : ProbeTable) → ((k : List ℕ) → m k ≡ false) → marked_more m t ≡ t
marked_none m t h = ap (with_entries t) (go t.entries)
  where
    go : (es : List KeyEntry) → map (mark_entry m) es ≡ es
    go [] = refl
    go (s ∷ es) = ap₂ (λ b r. slot_marked s b ∷ r) (ap (λ b. s.marked || b) (h s.key) ∙ or_none s.marked) (go es)

pub marked_twice : (m n : List ℕ → Bool) (t : ProbeTable) → marked_more n (marked_more m t) ≡ marked_more (λ k. m k || n k) t
marked_twice m n t = ap (with_entries t) (go t.entries)
  where
    go : (es : List KeyEntry) → map (mark_entry n) (map (mark_entry m) es) ≡ map (mark_entry (λ k. m k || n k)) es
    go [] = refl
    go (s ∷ es) = ap₂ (λ b r. slot_marked s b ∷ r) (or_assoc s.marked (m s.key) (n s.key)) (go es)

-- the marks of a front of the rows, and of some rows more
pub marks_more : (keys : List Key) (rows : List ℕ) (i n : ℕ) (t : ProbeTable) → marked_more (joins_any (keys_at keys (take n (drop i rows)))) (marked_more (joins_any (keys_at keys (take i rows))) t) ≡ marked_more (joins_any (keys_at keys (take (i + n) rows))) t
marks_more keys rows i n t =
    marked_twice (joins_any (keys_at keys (take i rows))) (joins_any (keys_at keys (take n (drop i rows)))) t
    ∙ marked_same (λ k. joins_any (keys_at keys (take i rows)) k || joins_any (keys_at keys (take n (drop i rows))) k) (joins_any (keys_at keys (take (i + n) rows))) t (λ k. sym (ap (λ rs. joins_any (keys_at keys rs) k) (take-add i n rows) ∙ ap (λ ks. joins_any ks k) (map-append (λ i. get_or keys i None) (take i rows) (take n (drop i rows))) ∙ list_any-append (is_joined k) (keys_at keys (take i rows)) (keys_at keys (take n (drop i rows)))))

pub pairs_more : (places : List (List (List ℕ))) (keep : Bool) (keys : List Key) (t : ProbeTable) (p : ℕ) (rows : List ℕ) (i n : ℕ) → part_pairs places keep keys t p (take (i + n) rows) ≡ part_pairs places keep keys t p (take i rows) ++ part_pairs places keep keys t p (take n (drop i rows))
pairs_more places keep keys t p rows i n = ap (part_pairs places keep keys t p) (take-add i n rows) ∙ flat_map-append (λ i. row_pairs places p i (matches t.entries keep (get_or keys i None))) (take i rows) (take n (drop i rows))

pub pairs_whole : (places : List (List (List ℕ))) (keep : Bool) (keys : List Key) (t : ProbeTable) (p : ℕ) (rows : List ℕ) (i : ℕ) → part_pairs places keep keys t p (take i rows) ++ part_pairs places keep keys t p (drop i rows) ≡ part_pairs places keep keys t p rows
pairs_whole places keep keys t p rows i = sym (flat_map-append (λ i. row_pairs places p i (matches t.entries keep (get_or keys i None))) (take i rows) (drop i rows)) ∙ ap (part_pairs places keep keys t p) (take-append-drop i rows)

-- what a run of replies gives is a front of all pairs
pub pairs_front : (places : List (List (List ℕ))) (keep : Bool) (keys : List Key) (t : ProbeTable) (p : ℕ) (rows : List ℕ) (n : ℕ) → length (flat_map (λ i. matches t.entries keep (get_or keys i None)) (take n rows)) ≤ length (part_pairs places keep keys t p rows)
pairs_front places keep keys t p rows n =
    let f : ℕ → List (Option Position) = λ i. matches t.entries keep (get_or keys i None) in
    omega (arith, ap length (pairs_whole places keep keys t p rows n), length-append (part_pairs places keep keys t p (take n rows)) (part_pairs places keep keys t p (drop n rows)), pairs_long places p f (take n rows))
