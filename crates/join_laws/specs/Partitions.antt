-- Rows by partition: the tables and the places of build rows, and pairs taken back in the order of the rows.
use Rattle.std.specs.Prelude.{◌≡◌, ℕ, zero, suc, ◌+◌, ◌^◌, ◌<◌, ◌≤◌, eqb, Bool, true, false, ◌||◌, List, [], ◌∷◌, ◌++◌, map, filter, length, get_or, zip, take, Option, Some, None, bytes_eq}
use Rattle.std.specs.Option.{option_map}
use Rattle.std.specs.List.{list_any, range_with_len, flat_map, All}
use Rattle.key_parts.specs.declared.hash.PlRandomState.{PlRandomState}
use Rattle.key_parts.specs.Positions.{Position}
use Rattle.hash_keys.specs.Keys.{Key}
use Rattle.chunked_idx_table.specs.Tables.{ProbeTable, empty_table}
use Rattle.chunked_idx_table.specs.Inserts.{with_chunk}
use Rattle.chunked_idx_table.specs.Probes.{matches, marked_more, joins_any, items, keys_at}
use Rattle.list_laws.specs.Each.{Each}
use Rattle.col_core.specs.declared.row_place.RowPlace.{RowPlace}
use Rattle.join_laws.specs.Deals.{table_keys, table_positions, null_positions, key_at, all_places}
use Rattle.join_laws.specs.Outer.{is_outer}
use Rattle.join_laws.specs.declared.Pair.{Pair}

-- the rows of a list of keys that are of partition p, and these lists for each of n partitions
abbrev pub dealt : (Key → ℕ) → ℕ → List Key → List ℕ
dealt part p keys = filter (λ i. eqb (part (get_or keys i None)) p) (range_with_len 0 (length keys))

abbrev pub deals : (Key → ℕ) → ℕ → List Key → List (List ℕ)
deals part n keys = map (λ p. dealt part p keys) (range_with_len 0 n)

-- a table that stands for none
abbrev pub no_table : ProbeTable
no_table = empty_table (record { seed = 0; mask = 0 })

-- table p of some frames, under marks that are a test of the key
abbrev pub table_of : (Key → ℕ) → PlRandomState → List (List Key) → (List ℕ → Bool) → ℕ → ProbeTable
table_of part state frames marked p = record {
  entries = map (λ k. record { key = k; positions = table_positions bytes_eq part frames p k; marked = marked k }) (table_keys bytes_eq part frames p);
  nulls = null_positions bytes_eq part frames p;
  chunks = length frames;
  state = state;
}

abbrev pub tables_of : (Key → ℕ) → PlRandomState → ℕ → List (List Key) → (List ℕ → Bool) → List ProbeTable
tables_of part state n frames marked = map (table_of part state frames marked) (range_with_len 0 n)

-- the rows of each partition in each frame
abbrev pub places_of : (Key → ℕ) → ℕ → List (List Key) → List (List (List ℕ))
places_of part n frames = map (deals part n) frames

-- the build row of a position in table p, and whether it has one
abbrev pub row_of : List (List (List ℕ)) → ℕ → Position → RowPlace
row_of places p x = record { frame = x.chunk; row = get_or (get_or (get_or places x.chunk []) p []) x.row 0 }

abbrev pub InPlaces : List (List (List ℕ)) → ℕ → Position → Type 0
InPlaces places p x = x.row < length (get_or (get_or places x.chunk []) p [])

-- the pairs of a probe row with what its table replies
abbrev pub row_pairs : List (List (List ℕ)) → ℕ → ℕ → List (Option Position) → List Pair
row_pairs places p i ms = map (λ m. record { probe = Some i; build = option_map (row_of places p) m }) ms

-- a run of replies, each match beside its row
abbrev pub reply_pairs : List (List (List ℕ)) → ℕ → List (Option Position) → List ℕ → List Pair
reply_pairs places p ms rows = map (λ e. record { probe = Some e.1; build = option_map (row_of places p) e.0 }) (zip ms rows)

-- the pairs of some rows of a morsel, by probes of table p
abbrev pub part_pairs : List (List (List ℕ)) → Bool → List Key → ProbeTable → ℕ → List ℕ → List Pair
part_pairs places keep keys t p rows = flat_map (λ i. row_pairs places p i (matches t.entries keep (get_or keys i None))) rows

-- a pair is of a probe row
abbrev pub is_row : ℕ → Option ℕ → Bool
is_row i None = false
is_row i (Some r) = eqb r i

abbrev pub is_of : ℕ → Pair → Bool
is_of i q = is_row i q.probe

-- one frame more: each table takes a chunk of its rows
abbrev pub with_parts : List Key → List (List ℕ) → List ProbeTable → List ProbeTable
with_parts keys lists tables = map (λ p. with_chunk true (get_or tables p no_table) (keys_at keys (get_or lists p []))) (range_with_len 0 (length tables))

-- tables and places are those of some frames, under marks that are a test of the key
pub record Stands (part : Key → ℕ) (state : PlRandomState) (n : ℕ) (frames : List (List Key)) (marked : List ℕ → Bool) (tables : List ProbeTable) (places : List (List (List ℕ))) : Type 0 where
  pub tables_are : tables ≡ tables_of part state n frames marked
  pub places_are : places ≡ places_of part n frames

-- nothing is marked
abbrev pub unmarked : List ℕ → Bool
unmarked k = false

-- the places in a list are below a number
abbrev pub AreBelow : ℕ → List (List ℕ) → Type 0
AreBelow n lists = (p : ℕ) → All (λ i. i < n) (get_or lists p []) × (length (get_or lists p []) ≤ n)

-- a table has room for a chunk of so many rows
abbrev pub HasRoom : ℕ → ProbeTable → Type 0
HasRoom n t = (t.chunks < 2 ^ 31) × (length t.entries + length t.nulls + n < 2 ^ 31)

-- a match has a build row, if it is one
abbrev pub FitsPlaces : List (List (List ℕ)) → ℕ → Option Position → Type 0
FitsPlaces places p None = Unit {0}
FitsPlaces places p (Some x) = InPlaces places p x

-- each position of a table has a build row
pub record TableFits (places : List (List (List ℕ))) (p : ℕ) (t : ProbeTable) : Type 0 where
  pub entries_fit : Each (λ s. Each (InPlaces places p) s.positions) t.entries
  pub nulls_fit : Each (InPlaces places p) t.nulls

-- each table with the keys of its rows marked
abbrev pub marked_parts : List Key → List (List ℕ) → List ProbeTable → List ProbeTable
marked_parts keys lists tables = map (λ p. marked_more (joins_any (keys_at keys (get_or lists p []))) (get_or tables p no_table)) (range_with_len 0 (length tables))

-- the pairs of each partition's rows
abbrev pub parts_pairs : List (List (List ℕ)) → Bool → List Key → List (List ℕ) → List ProbeTable → List (List Pair)
parts_pairs places keep keys lists tables = map (λ p. part_pairs places keep keys (get_or tables p no_table) p (get_or lists p [])) (range_with_len 0 (length tables))

-- what stands by partition is what each row gives
pub record IsFound (part : Key → ℕ) (n : ℕ) (keys : List Key) (g : ℕ → List Pair) (found : List (List Pair)) : Type 0 where
  pub found_are : found ≡ map (λ p. flat_map g (dealt part p keys)) (range_with_len 0 n)
  pub own : (i : ℕ) → Each (λ q. q.probe ≡ Some i) (g i)

-- the pair at a place among those of the partitions
abbrev pub no_pair : Pair
no_pair = record { probe = None; build = None }

abbrev pub pair_at : List (List Pair) → Position → Pair
pair_at found x = get_or (get_or found x.chunk []) x.row no_pair

abbrev pub AtPair : List (List Pair) → Position → Type 0
AtPair found x = x.row < length (get_or found x.chunk [])

-- in each table, the keys of a front of its rows are marked more
abbrev pub AreFronts : List Key → List (List ℕ) → List ProbeTable → List ProbeTable → Type 0
AreFronts keys lists olds news = (p : ℕ) → (n : ℕ) × (get_or news p no_table ≡ marked_more (joins_any (keys_at keys (take n (get_or lists p [])))) (get_or olds p no_table))

-- they stand with some keys marked more, which the keys of a morsel join
pub record StandsMore (part : Key → ℕ) (state : PlRandomState) (n : ℕ) (frames : List (List Key)) (marked : List ℕ → Bool) (keys : List Key) (tables : List ProbeTable) (places : List (List (List ℕ))) : Type 0 where
  pub more : List ℕ → Bool
  pub joined : (k : List ℕ) → more k ≡ true → joins_any keys k ≡ true
  pub stands : Stands part state n frames (λ k. marked k || more k) tables places

-- the build rows of null keys and of keys that are not marked, in build order
abbrev pub outer_rows : (Key → ℕ) → List (List Key) → (List ℕ → Bool) → List RowPlace
outer_rows part frames marked = filter (λ x. is_outer marked (key_at bytes_eq part frames x)) (all_places bytes_eq part frames)

-- the build rows of what a table's items give
abbrev pub item_rows : List (List (List ℕ)) → ℕ → ProbeTable → List RowPlace
item_rows places p t = map (row_of places p) (flat_map (λ x. x) (items t))

-- a key is marked, or some key of some morsel joins it
abbrev pub marked_by : (List ℕ → Bool) → List (List Key) → List ℕ → Bool
marked_by marked morsels k = marked k || list_any (λ keys. joins_any keys k) morsels
