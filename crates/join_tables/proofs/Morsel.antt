-- What the probes of a morsel give, its rows having been dealt.
use Rattle.std.proofs.Common.{◌≡◌, ℕ, ◌<◌, Bool, ◌||◌, List, map, length, flat_map, sym, ap, ◌∙◌, subst, bytes_eq, Vec, Global}
use Rattle.std.specs.List.{range_with_len}
use Rattle.std.proofs.lemmas.List.FromFn.{length-map-range_with_len}
use Rattle.std.proofs.lemmas.Slice.Eq.{bytes_eq-Decides}
use Rattle.key_parts.specs.declared.hash.PlRandomState.{PlRandomState}
use Rattle.key_parts.specs.Partitions.{Partitioner, partition_of}
use Rattle.hash_keys.specs.Keys.{Key}
use Rattle.chunked_idx_table.specs.Probes.{joins_any}
use Rattle.chunked_idx_table.specs.Tables.{ProbeTable}
use Rattle.join_laws.specs.declared.Pair.{Pair}
use Rattle.join_laws.specs.Pairs.{nested_pairs}
use Rattle.join_laws.specs.Partitions.{deals, dealt, table_of, AreBelow, AreFronts, IsFound, Stands, StandsMore, parts_pairs, marked_parts}
use Rattle.join_laws.proofs.Found.{gives}
use Rattle.join_laws.proofs.Pairs.{probed_are}
use Rattle.join_laws.proofs.Morsels.{stands_found, stands_fronts, stands_joined, stands_long, stands_marked}
use Rattle.join_laws.proofs.Sizes.{deals_below, deals_long}
use Rattle.join_tables.proofs.PartLists.{its}

-- rows that are dealt under a state that is the same
pub dealt_now : (state now : PlRandomState) (partitioner : Partitioner) (keys : List Key) (lists : List (Vec ℕ Global)) (rows : List (List ℕ)) → now ≡ state → rows ≡ map its lists → map its lists ≡ deals (partition_of now partitioner) partitioner.partitions keys → rows ≡ deals (partition_of state partitioner) partitioner.partitions keys
dealt_now state now partitioner keys lists rows e r d = r ∙ d ∙ ap (λ (s : PlRandomState). deals (partition_of s partitioner) partitioner.partitions keys) e

-- rows that are dealt, in all partitions together and in each
module _ (part : Key → ℕ) (n : ℕ) (keys : List Key) (lists : List (List ℕ)) (l : lists ≡ deals part n keys) where
  pub dealt_inside : AreBelow (length keys) lists
  dealt_inside = subst (λ (ls : List (List ℕ)). AreBelow (length keys) ls) (sym l) (deals_below part n keys)

  pub dealt_parts : length lists ≡ n
  dealt_parts = ap length l ∙ length-map-range_with_len (λ p. dealt part p keys) 0 n

  pub dealt_rows : ((o : Key) → part o < n) → length (flat_map (λ r. r) lists) ≡ length keys
  dealt_rows below = ap (λ (ls : List (List ℕ)). length (flat_map (λ r. r) ls)) l ∙ deals_long part n below keys

module _ (part : Key → ℕ) (state : PlRandomState) (n : ℕ) (frames : List (List Key)) (marked : List ℕ → Bool) (olds : List ProbeTable) (places : List (List (List ℕ))) (s : Stands part state n frames marked olds places) where
  pub stands_parts : length olds ≡ n
  stands_parts = ap length s.tables_are ∙ length-map-range_with_len (table_of part state frames marked) 0 n

  module _ (keys : List Key) (lists : List (List ℕ)) (l : lists ≡ deals part n keys) where
    pub morsel_found : (keep : Bool) (found : List (List Pair)) → found ≡ parts_pairs places keep keys lists olds → IsFound part n keys (gives part state n frames keep keys) found
    morsel_found keep found e = stands_found part state n frames marked olds places s keys keep found (e ∙ ap (λ (ls : List (List ℕ)). parts_pairs places keep keys ls olds) l)

    -- what the rows give in turn is what a loop over all build rows gives
    pub morsel_pairs : (keep : Bool) → flat_map (gives part state n frames keep keys) (range_with_len 0 (length keys)) ≡ nested_pairs bytes_eq part frames keep keys
    morsel_pairs keep = probed_are bytes_eq bytes_eq-Decides part frames keep keys

    -- as many pairs as row by row
    pub morsel_count : ((o : Key) → part o < n) → (keep : Bool) → length (flat_map (λ q. q) (parts_pairs places keep keys lists olds)) ≡ length (nested_pairs bytes_eq part frames keep keys)
    morsel_count below keep = ap (λ (ls : List (List ℕ)). length (flat_map (λ q. q) (parts_pairs places keep keys ls olds))) l ∙ stands_long part state n frames marked olds places s keys below keep ∙ ap length (probed_are bytes_eq bytes_eq-Decides part frames keep keys)

    pub morsel_marked : (news : List ProbeTable) → news ≡ marked_parts keys lists olds → Stands part state n frames (λ k. marked k || joins_any keys k) news places
    morsel_marked news e = stands_marked part state n frames marked olds places s keys news (e ∙ ap (λ (ls : List (List ℕ)). marked_parts keys ls olds) l)

    pub morsel_joined : (news : List ProbeTable) → news ≡ marked_parts keys lists olds → StandsMore part state n frames marked keys news places
    morsel_joined news e = stands_joined part state n frames marked olds places s keys news (e ∙ ap (λ (ls : List (List ℕ)). marked_parts keys ls olds) l)

    pub morsel_fronts : (news : List ProbeTable) → length news ≡ length olds → AreFronts keys lists olds news → StandsMore part state n frames marked keys news places
    morsel_fronts news e h = stands_fronts part state n frames marked olds places s keys news e (subst (λ (ls : List (List ℕ)). AreFronts keys ls olds news) l h)

-- what is found, under a state that is the same
pub found_under : (state now : PlRandomState) (partitioner : Partitioner) (keys : List Key) (g : ℕ → List Pair) (found : List (List Pair)) → now ≡ state → IsFound (partition_of state partitioner) partitioner.partitions keys g found → IsFound (partition_of now partitioner) partitioner.partitions keys g found
found_under state now partitioner keys g found e f = subst (λ (s : PlRandomState). IsFound (partition_of s partitioner) partitioner.partitions keys g found) (sym e) f
