-- Pairs that stand by partition, read in the order of the rows.
use Rattle.std.proofs.Common.{◌≡◌, ℕ, ◌<◌, ◌^◌, List, map, flat_map, length, get_or, None, ap, ◌∙◌, arith, count_by}
use Rattle.std.specs.List.{range_with_len}
use Rattle.hash_keys.specs.Gathered.{count_in, numbered}
use Rattle.hash_keys.specs.Keys.{Key}
use Rattle.list_laws.proofs.Ranges.{Each-range}
use Rattle.list_laws.specs.Each.{Each}
use Rattle.join_laws.specs.declared.Pair.{Pair}
use Rattle.join_laws.specs.Partitions.{is_of, AtPair, IsFound, pair_at}
use Rattle.join_laws.proofs.RowOrder.{counts_are, found_at, numbered_are}
use Rattle.join_tables.proofs.Counts.{count_given, piece_short}

module _ (part : Key → ℕ) (n : ℕ) (below : (o : Key) → part o < n) (keys : List Key) (g : ℕ → List Pair) (found : List (List Pair)) (f : IsFound part n keys g found) (counts : List ℕ) (counted : (i : ℕ) → get_or counts i 0 ≡ count_by (is_of i) (flat_map (λ q. q) found)) where
  abbrev rows : List ℕ
  rows = range_with_len 0 (length keys)

  abbrev part_at : ℕ → ℕ
  part_at i = part (get_or keys i None)

  abbrev count_at : ℕ → ℕ
  count_at i = get_or counts i 0

  each_counted : Each (λ i. count_at i ≡ length (g i)) rows
  each_counted = Each-range _ 0 (length keys) (λ i l m. counted i ∙ counts_are part n below keys g found f i (omega arith))

  -- the pairs at the numbered places are those of each row in turn, and the places are there
  pub numbered_given : (map (pair_at found) (numbered part_at count_at rows (λ _. 0)) ≡ flat_map g rows) × Each (AtPair found) (numbered part_at count_at rows (λ _. 0))
  numbered_given = numbered_are part_at count_at g found rows (λ _. 0) (found_at part n below keys g found f) each_counted

  -- each partition has few of them
  pub counted_few : length (flat_map (λ q. q) found) < 2 ^ 32 → (p : ℕ) → count_in part_at count_at p rows < 2 ^ 32
  counted_few few p = omega (arith, few, count_given part_at count_at g p rows each_counted, ap length (found_at part n below keys g found f p), piece_short found p)
