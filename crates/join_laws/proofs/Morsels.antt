-- What tables that stand for some frames give for a morsel's keys.
use Rattle.std.proofs.Common.{◌≡◌, ℕ, zero, suc, ◌+◌, ◌-◌, ◌<◌, ◌≤◌, Bool, true, false, ◌||◌, List, [], ◌∷◌, ◌++◌, map, flat_map, length, get_or, refl, sym, ap, ap₂, ◌∙◌, subst, arith, Option, Some, None, bytes_eq}
use Rattle.std.specs.List.{range_with_len, list_any}
use Rattle.std.proofs.lemmas.Bool.{false≢true}
use Rattle.std.proofs.lemmas.List.FromFn.{length-map-range_with_len}
use Rattle.chunked_idx_table.specs.Probes.{joins_any}
use Rattle.chunked_idx_table.specs.Tables.{KeyEntry, ProbeTable}
use Rattle.hash_keys.specs.Keys.{Key}
use Rattle.join_laws.proofs.Found.{gives, parts_found, table_fits, tables_fronts, tables_marked}
use Rattle.join_laws.proofs.RowOrder.{rows_long}
use Rattle.join_laws.specs.Deals.{null_positions, table_keys, table_positions}
use Rattle.join_laws.specs.declared.Pair.{Pair}
use Rattle.join_laws.specs.Pairs.{probed_pairs}
use Rattle.join_laws.specs.Partitions.{AreFronts, IsFound, Stands, StandsMore, TableFits, deals, marked_by, marked_parts, no_table, parts_pairs, places_of, table_of, tables_of}
use Rattle.col_core.specs.declared.row_place.RowPlace.{RowPlace}
use Rattle.key_parts.specs.Positions.{Position}
use Rattle.key_parts.specs.declared.hash.PlRandomState.{PlRandomState}
use Rattle.list_laws.proofs.Each.{Each-all}
use Rattle.list_laws.proofs.Halves.{or_assoc, or_none}
use Rattle.list_laws.proofs.Keys.{list_any-append}
use Rattle.list_laws.proofs.Lists.{map_same}

module _ (part : Key → ℕ) (state : PlRandomState) (n : ℕ) (frames : List (List Key)) (marked : List ℕ → Bool) (ts : List ProbeTable) (ps : List (List (List ℕ))) (s : Stands part state n frames marked ts ps) where
  pub tables_same : (m m' : List ℕ → Bool) → ((k : List ℕ) → m k ≡ m' k) → tables_of part state n frames m ≡ tables_of part state n frames m'
  tables_same m m' h = map_same (table_of part state frames m) (table_of part state frames m') (range_with_len 0 n) (Each-all _ _ (λ p. ap (λ (es : List KeyEntry). record { entries = es; nulls = null_positions bytes_eq part frames p; chunks = length frames; state = state }) (map_same _ _ (table_keys bytes_eq part frames p) (Each-all _ _ (slot p)))))
    where
      slot_as : ℕ → List ℕ → Bool → KeyEntry
      slot_as p k b = record { key = k; positions = table_positions bytes_eq part frames p k; marked = b }

      slot : (p : ℕ) (k : List ℕ) → slot_as p k (m k) ≡ slot_as p k (m' k)
      slot p k = ap (slot_as p k) (h k)

  -- nothing is marked more
  pub stands_same : (keys : List Key) → StandsMore part state n frames marked keys ts ps
  stands_same keys = record {
    more = λ k. false;
    joined = λ k e. absurd (false≢true e);
    stands = record { tables_are = s.tables_are ∙ tables_same marked (λ k. marked k || false) (λ k. sym (or_none (marked k))); places_are = s.places_are };
  }

  pub stands_fits : (p : ℕ) → TableFits ps p (get_or ts p no_table)
  stands_fits p =
      let a : TableFits (places_of part n frames) p (get_or ts p no_table) = subst (λ (us : List ProbeTable). TableFits (places_of part n frames) p (get_or us p no_table)) (sym s.tables_are) (table_fits part state n frames marked p) in
      subst (λ (qs : List (List (List ℕ))). TableFits qs p (get_or ts p no_table)) (sym s.places_are) a

  module _ (keys : List Key) where
    pub stands_found : (keep : Bool) (found : List (List Pair)) → found ≡ parts_pairs ps keep keys (deals part n keys) ts → IsFound part n keys (gives part state n frames keep keys) found
    stands_found keep found e =
        let same : parts_pairs (places_of part n frames) keep keys (deals part n keys) (tables_of part state n frames marked) ≡ found = sym (e ∙ ap₂ (λ (qs : List (List (List ℕ))) (us : List ProbeTable). parts_pairs qs keep keys (deals part n keys) us) s.places_are s.tables_are) in
        subst (λ (fs : List (List Pair)). IsFound part n keys (gives part state n frames keep keys) fs) same (parts_found part state n frames marked keep keys)

    -- as many pairs as the laws' pairs
    pub stands_long : ((o : Key) → part o < n) → (keep : Bool) → length (flat_map (λ q. q) (parts_pairs ps keep keys (deals part n keys) ts)) ≡ length (probed_pairs bytes_eq part frames keep keys)
    stands_long below keep = rows_long part n below keys (gives part state n frames keep keys) (parts_pairs ps keep keys (deals part n keys) ts) (stands_found keep (parts_pairs ps keep keys (deals part n keys) ts) refl)

    pub stands_marked : (news : List ProbeTable) → news ≡ marked_parts keys (deals part n keys) ts → Stands part state n frames (λ k. marked k || joins_any keys k) news ps
    stands_marked news e = record {
      tables_are = e ∙ ap (marked_parts keys (deals part n keys)) s.tables_are ∙ tables_marked part state n frames marked keys;
      places_are = s.places_are;
    }

    pub stands_joined : (news : List ProbeTable) → news ≡ marked_parts keys (deals part n keys) ts → StandsMore part state n frames marked keys news ps
    stands_joined news e = record { more = joins_any keys; joined = λ k h. h; stands = stands_marked news e }

    pub stands_fronts : (news : List ProbeTable) → length news ≡ length ts → AreFronts keys (deals part n keys) ts news → StandsMore part state n frames marked keys news ps
    stands_fronts news e h = tables_fronts part state n frames marked keys news ps (e ∙ ap length s.tables_are ∙ length-map-range_with_len (table_of part state frames marked) 0 n) s.places_are (subst (λ (us : List ProbeTable). AreFronts keys (deals part n keys) us news) s.tables_are h)

-- marks of one morsel more
pub marked_by_more : (marked : List ℕ → Bool) (morsels : List (List Key)) (keys : List Key) (k : List ℕ) → (marked_by marked morsels k || joins_any keys k) ≡ marked_by marked (morsels ++ keys ∷ []) k
marked_by_more marked morsels keys k =
    or_assoc (marked k) (list_any (λ ks. joins_any ks k) morsels) (joins_any keys k)
    ∙ ap (λ b. marked k || b) (sym (list_any-append (λ ks. joins_any ks k) morsels (keys ∷ []) ∙ ap (λ b. list_any (λ ks. joins_any ks k) morsels || b) (or_none (joins_any keys k))))

pub stands_as : (part : Key → ℕ) (state : PlRandomState) (n : ℕ) (frames : List (List Key)) (m m' : List ℕ → Bool) (ts : List ProbeTable) (ps : List (List (List ℕ))) → ((k : List ℕ) → m k ≡ m' k) → Stands part state n frames m ts ps → Stands part state n frames m' ts ps
stands_as part state n frames m m' ts ps h s = record { tables_are = s.tables_are ∙ tables_same part state n frames m ts ps s m m' h; places_are = s.places_are }
