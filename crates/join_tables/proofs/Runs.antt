-- A reply of a table, as the pairs of a run of rows.
use Rattle.std.proofs.Common.{◌≡◌, ℕ, ◌+◌, ◌≤◌, Bool, true, List, ◌++◌, length, take, drop, Option, is_some, sym, ap, ap₂, ◌∙◌, subst, arith}
use Rattle.std.specs.List.{All}
use Rattle.std.proofs.lemmas.List.{length-map, length-take-le}
use Rattle.key_parts.specs.Positions.{Position}
use Rattle.hash_keys.specs.Keys.{Key, key_at}
use Rattle.chunked_idx_table.specs.Inserts.{searches}
use Rattle.chunked_idx_table.specs.Probes.{Answered, joins_any, keys_at, marked_more, row_matches}
use Rattle.chunked_idx_table.specs.Tables.{ProbeTable}
use Rattle.join_laws.specs.declared.Pair.{Pair}
use Rattle.join_laws.specs.Partitions.{FitsPlaces, TableFits, part_pairs, reply_pairs}
use Rattle.join_laws.proofs.Probes.{replies_fit, reply_is, reply_long, pairs_front, pairs_long, pairs_more, pairs_whole, part_pairs_marked, marks_more}
use Rattle.join_laws.proofs.RowOrder.{count_short}

module _ (places : List (List (List ℕ))) (p : ℕ) (keys : List Key) (keep : Bool) (t new : ProbeTable) (rows : List ℕ) (positions : List (Option Position)) (indexes : List ℕ) (a : Answered true keep t keys rows new positions indexes) where
  pub run_long : length positions ≡ length indexes
  run_long = ap length a.positions_are ∙ reply_long places p (row_matches t keys keep) rows ∙ sym (ap length a.indexes_are)

  pub run_fits : TableFits places p t → All (FitsPlaces places p) positions
  run_fits fits = subst (λ (ms : List (Option Position)). All (FitsPlaces places p) ms) (sym a.positions_are) (replies_fit places p t keep keys rows fits)

  pub run_pairs : reply_pairs places p positions indexes ≡ part_pairs places keep keys t p rows
  run_pairs = ap₂ (reply_pairs places p) a.positions_are a.indexes_are ∙ reply_is places p (row_matches t keys keep) rows

  pub run_count : length (part_pairs places keep keys t p rows) ≡ length positions
  run_count = pairs_long places p (row_matches t keys keep) rows ∙ sym (ap length a.positions_are)

  pub run_marks : new ≡ marked_more (joins_any (keys_at keys rows)) t
  run_marks = a.marks_are

-- the pairs of a front are no more than all
pub front_short : (places : List (List (List ℕ))) (keep : Bool) (keys : List Key) (t : ProbeTable) (p : ℕ) (rows : List ℕ) (n : ℕ) → length (part_pairs places keep keys t p (take n rows)) ≤ length (part_pairs places keep keys t p rows)
front_short places keep keys t p rows n = omega (arith, pairs_front places keep keys t p rows n, pairs_long places p (row_matches t keys keep) (take n rows))

-- no more searches than rows
pub searches_short : (keys : List Key) (rows : List ℕ) (n : ℕ) → n ≤ length rows → searches (keys_at keys (take n rows)) ≤ n
searches_short keys rows n h = omega (arith, count_short is_some (keys_at keys (take n rows)), length-map (take n rows) (key_at keys), length-take-le n rows h)

-- a run more, from where the ones before stopped
module _ (places : List (List (List ℕ))) (keep : Bool) (keys : List Key) (t now : ProbeTable) (p : ℕ) (rows rest : List ℕ) (i : ℕ) (r : rest ≡ drop i rows) (e : now ≡ marked_more (joins_any (keys_at keys (take i rows))) t) where
  pub runs_more : (n : ℕ) (so_far pairs : List Pair) → so_far ≡ part_pairs places keep keys t p (take i rows) → pairs ≡ so_far ++ part_pairs places keep keys now p (take n rest) → pairs ≡ part_pairs places keep keys t p (take (i + n) rows)
  runs_more n so_far pairs f h =
      h ∙ ap₂ (λ (a b : List Pair). a ++ b) f (ap₂ (λ (u : ProbeTable) (rs : List ℕ). part_pairs places keep keys u p (take n rs)) e r ∙ part_pairs_marked places keep keys (joins_any (keys_at keys (take i rows))) t p (take n (drop i rows)))
      ∙ sym (pairs_more places keep keys t p rows i n)

  -- with all runs that are left
  pub runs_whole : (so_far : List Pair) → so_far ≡ part_pairs places keep keys t p (take i rows) → so_far ++ part_pairs places keep keys now p rest ≡ part_pairs places keep keys t p rows
  runs_whole so_far f =
      ap₂ (λ (a b : List Pair). a ++ b) f (ap₂ (λ (u : ProbeTable) (rs : List ℕ). part_pairs places keep keys u p rs) e r ∙ part_pairs_marked places keep keys (joins_any (keys_at keys (take i rows))) t p (drop i rows))
      ∙ pairs_whole places keep keys t p rows i

  pub runs_marks : (n : ℕ) (new : ProbeTable) → new ≡ marked_more (joins_any (keys_at keys (take n rest))) now → new ≡ marked_more (joins_any (keys_at keys (take (i + n) rows))) t
  runs_marks n new h =
      h ∙ ap₂ (λ (rs : List ℕ) (u : ProbeTable). marked_more (joins_any (keys_at keys (take n rs))) u) r e ∙ marks_more keys rows i n t
