-- Tables and places, a frame more.
use Rattle.std.proofs.Common.{◌≡◌, ℕ, zero, suc, ◌+◌, ◌-◌, ◌<◌, ◌≤◌, eqb, Bool, true, false, not, ◌||◌, cond, List, [], ◌∷◌, ◌++◌, map, filter, flat_map, fold, length, get_or, take, drop, refl, sym, ap, ap₂, ◌∙◌, subst, inl, inr, append-nil, append_assoc, arith, Option, Some, None, is_none, bytes_eq}
use Rattle.std.specs.List.{list_any, range_with_len, All}
use Rattle.std.proofs.lemmas.Bool.{cases_lt, cases_Bool}
use Rattle.std.proofs.lemmas.Slice.Eq.{bytes_eq-Decides}
use Rattle.std.proofs.lemmas.List.{length-append, length-map, get_or-map, map-append, take_more}
use Rattle.std.proofs.lemmas.List.Folds.{flat_map-map}
use Rattle.std.proofs.lemmas.List.Concat.{flat_map-append}
use Rattle.std.proofs.lemmas.List.Elements.{filter-append}
use Rattle.std.proofs.lemmas.List.FromFn.{get_or-map-range_with_len, length-map-range_with_len, length-range_with_len}
use Rattle.chunked_idx_table.specs.Inserts.{null_positions as chunk_nulls, chunk_rows, with_chunk, with_row}
use Rattle.chunked_idx_table.specs.Probes.{keys_at}
use Rattle.chunked_idx_table.specs.Tables.{KeyEntry, ProbeTable}
use Rattle.hash_keys.specs.Keys.{Key}
use Rattle.join_laws.proofs.Bounds.{length-distinct}
use Rattle.join_laws.proofs.Inserts.{entries_all}
use Rattle.join_laws.specs.Deals.{chunk, inserted, is_key, null_positions, positions_where, present, table_keys, table_positions}
use Rattle.join_laws.specs.Inserts.{entries_of}
use Rattle.join_laws.specs.Partitions.{dealt, Stands, deals, no_table, places_of, table_of, tables_of, unmarked, with_parts}
use Rattle.col_core.specs.declared.row_place.RowPlace.{RowPlace}
use Rattle.key_parts.specs.Positions.{Position}
use Rattle.key_parts.specs.declared.hash.PlRandomState.{PlRandomState}
use Rattle.list_laws.proofs.Lists.{get_or_past, made_same, map_same, range_upto}
use Rattle.list_laws.proofs.Maps.{flat_map_same}
use Rattle.list_laws.proofs.Ranges.{Each-range}
use Rattle.list_laws.specs.Distinct.{distinct}
use Rattle.list_laws.specs.Each.{Each}

pub get_or_last : {X : Type 0} (xs : List X) (x d : X) → get_or (xs ++ x ∷ []) (length xs) d ≡ x
get_or_last [] x d = refl
get_or_last (y ∷ ys) x d = get_or_last ys x d

pub get_or_front : {X : Type 0} (xs ys : List X) (i : ℕ) (d : X) → i < length xs → get_or (xs ++ ys) i d ≡ get_or xs i d
get_or_front [] ys i d h = absurd (omega arith)
get_or_front (x ∷ xs) ys zero d h = refl
get_or_front (x ∷ xs) ys (suc i) d h = get_or_front xs ys i d (omega arith)

abbrev row_at : ℕ → ℕ → Key → Key × Position
row_at f k o = (o, record { chunk = f; row = k })

abbrev made_table : PlRandomState → List KeyEntry → List Position → ℕ → ProbeTable
made_table s e n c = record { entries = e; nulls = n; chunks = c; state = s }

table_is : (s : PlRandomState) {e e' : List KeyEntry} {n n' : List Position} {c c' : ℕ} → e ≡ e' → n ≡ n' → c ≡ c' → made_table s e n c ≡ made_table s e' n' c'
table_is s {e} {e'} {n} {n'} {c} {c'} a b d = ap₂ (λ x y. made_table s x y c) a b ∙ ap (made_table s e' n') d

module _ (part : Key → ℕ) (state : PlRandomState) where
  -- a chunk of a frame's rows
  abbrev chunk_of : List Key → ℕ → ℕ → List (Key × Position)
  chunk_of keys p f = map (λ j. (get_or keys (get_or (dealt part p keys) j 0) None, record { chunk = f; row = j })) (range_with_len 0 (length (dealt part p keys)))

  chunk_is : (keys : List Key) (p f : ℕ) → chunk_of keys p f ≡ chunk_rows f (keys_at keys (dealt part p keys))
  chunk_is keys p f =
      let ds = dealt part p keys in
      map_same (λ j. (get_or keys (get_or ds j 0) None, record { chunk = f; row = j })) (λ j. (get_or (keys_at keys ds) j None, record { chunk = f; row = j })) (range_with_len 0 (length ds)) (Each-range _ 0 (length ds) (λ k l m. same k (omega arith)))
      ∙ ap (λ n. map (λ j. (get_or (keys_at keys ds) j None, record { chunk = f; row = j })) (range_with_len 0 n)) (sym (length-map ds (λ i. get_or keys i None)))
    where
      same : (k : ℕ) → k < length (dealt part p keys) → row_at f k (get_or keys (get_or (dealt part p keys) k 0) None) ≡ row_at f k (get_or (keys_at keys (dealt part p keys)) k None)
      same k h = ap (row_at f k) (sym (get_or-map (λ i. get_or keys i None) (dealt part p keys) k 0 None h))

  -- what all chunks put into a table, with a frame more
  pub inserted_more : (frames : List (List Key)) (keys : List Key) (p : ℕ) → inserted bytes_eq part (frames ++ keys ∷ []) p ≡ inserted bytes_eq part frames p ++ chunk_rows (length frames) (keys_at keys (dealt part p keys))
  inserted_more frames keys p =
      let frames' = frames ++ keys ∷ [] in
      ap (λ n. flat_map (chunk bytes_eq part frames' p) (range_with_len 0 n)) (length-append frames (keys ∷ []))
      ∙ ap (flat_map (chunk bytes_eq part frames' p)) (range_upto (length frames))
      ∙ flat_map-append (chunk bytes_eq part frames' p) (range_with_len 0 (length frames)) (length frames ∷ [])
      ∙ ap₂ (λ a b. a ++ b)
      (flat_map_same (chunk bytes_eq part frames' p) (chunk bytes_eq part frames p) (range_with_len 0 (length frames)) (Each-range _ 0 (length frames) (λ k l m. ap (λ ks. chunk_of ks p k) (get_or_front frames (keys ∷ []) k [] (omega arith)))))
      (append-nil (chunk bytes_eq part frames' p (length frames)) ∙ ap (λ ks. chunk_of ks p (length frames)) (get_or_last frames keys []) ∙ chunk_is keys p (length frames))

  -- a table takes a chunk of its rows
  pub table_more : (frames : List (List Key)) (keys : List Key) (p : ℕ) → with_chunk true (table_of part state frames unmarked p) (keys_at keys (dealt part p keys)) ≡ table_of part state (frames ++ keys ∷ []) unmarked p
  table_more frames keys p =
      table_is state
      (entries_all es rows ∙ ap (entries_of) (sym more))
      (sym (ap chunk_nulls more ∙ ap (map (λ e. e.1)) (filter-append (λ e. is_none e.0) es rows) ∙ map-append (λ (e : Key × Position). e.1) (filter (λ e. is_none e.0) es) (filter (λ e. is_none e.0) rows)))
      (sym (length-append frames (keys ∷ [])))
    where
      es : List (Key × Position)
      es = inserted bytes_eq part frames p

      rows : List (Key × Position)
      rows = chunk_rows (length frames) (keys_at keys (dealt part p keys))

      more : inserted bytes_eq part (frames ++ keys ∷ []) p ≡ inserted bytes_eq part frames p ++ chunk_rows (length frames) (keys_at keys (dealt part p keys))
      more = inserted_more frames keys p

  -- all tables take the chunks of a frame
  pub tables_more : (n : ℕ) (frames : List (List Key)) (keys : List Key) → with_parts keys (deals part n keys) (tables_of part state n frames unmarked) ≡ tables_of part state n (frames ++ keys ∷ []) unmarked
  tables_more n frames keys =
      ap (λ m. map (λ p. with_chunk true (get_or (tables_of part state n frames unmarked) p no_table) (keys_at keys (get_or (deals part n keys) p []))) (range_with_len 0 m)) (length-map-range_with_len (table_of part state frames unmarked) 0 n)
      ∙ map_same _ (table_of part state (frames ++ keys ∷ []) unmarked) (range_with_len 0 n) (Each-range _ 0 n (λ p l m.
      ap₂ (λ (t : ProbeTable) (ds : List ℕ). with_chunk true t (keys_at keys ds)) (get_or-map-range_with_len (table_of part state frames unmarked) 0 n p p no_table (omega arith) (omega arith)) (get_or-map-range_with_len (λ q. dealt part q keys) 0 n p p [] (omega arith) (omega arith))
      ∙ table_more frames keys p))

  pub places_more : (n : ℕ) (frames : List (List Key)) (keys : List Key) → places_of part n (frames ++ keys ∷ []) ≡ places_of part n frames ++ deals part n keys ∷ []
  places_more n frames keys = map-append (deals part n) frames (keys ∷ [])

  pub stands_more : (n : ℕ) (frames : List (List Key)) (keys : List Key) (ts : List ProbeTable) (ps : List (List (List ℕ))) → Stands part state n frames unmarked ts ps → Stands part state n (frames ++ keys ∷ []) unmarked (with_parts keys (deals part n keys) ts) (ps ++ deals part n keys ∷ [])
  stands_more n frames keys ts ps s = record {
    tables_are = ap (with_parts keys (deals part n keys)) s.tables_are ∙ tables_more n frames keys;
    places_are = ap (λ q. q ++ deals part n keys ∷ []) s.places_are ∙ sym (places_more n frames keys);
  }

-- the keys of one frame more
pub frames_step : {X : Type 0} (keys : X → List Key) (xs : List X) (i : ℕ) (x : X) → x ≡ get_or xs i x → i < length xs → take (i + 1) (map keys xs) ≡ take i (map keys xs) ++ keys x ∷ []
frames_step keys xs i x e h = take_more (map keys xs) i [] (omega (arith, length-map xs keys)) ∙ ap (λ k. take i (map keys xs) ++ k ∷ []) (get_or-map keys xs i x [] h ∙ ap keys (sym e))

pub frames_rows : {X : Type 0} (keys : X → List Key) (xs : List X) → flat_map (λ f. f) (map keys xs) ≡ flat_map keys xs
frames_rows keys xs = flat_map-map (λ f. f) keys xs
