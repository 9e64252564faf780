-- The pairs of a morsel, as rows, are those of the nested loops.
use Rattle.std.proofs.Common.{◌≡◌, ℕ, ◌<◌, Bool, true, false, List, [], ◌∷◌, ◌++◌, map, filter, flat_map, length, get_or, Option, Some, None, refl, sym, ap, ◌∙◌, arith, bytes_eq}
use Rattle.std.specs.List.{All, range_with_len}
use Rattle.std.proofs.lemmas.List.{length-map}
use Rattle.std.proofs.lemmas.Slice.Eq.{bytes_eq-Decides}
use Rattle.list_laws.specs.Each.{Each}
use Rattle.list_laws.proofs.Each.{Each-filter, Each-flat_map, Each-from_All, All-from_Each, Each-map, Each-weaker}
use Rattle.list_laws.proofs.Filters.{filter_same}
use Rattle.list_laws.proofs.Lists.{map_same}
use Rattle.list_laws.proofs.Maps.{flat_map_same}
use Rattle.list_laws.proofs.Ranges.{Each-range}
use Rattle.col_core.specs.declared.row_place.RowPlace.{RowPlace}
use Rattle.col_core.specs.declared.schema.Field.{Field}
use Rattle.col_core.specs.Places.{IsPlace}
use Rattle.col_core.specs.Tables.{Row, Table}
use Rattle.hash_keys.specs.Keys.{Key}
use Rattle.join_laws.specs.Deals.{all_places, key_at, keys_join}
use Rattle.join_laws.specs.declared.Pair.{Pair}
use Rattle.join_laws.specs.Pairs.{joined, pairs_with, probed_pairs}
use Rattle.join_laws.specs.Pairs.{pair_row as law_row, with_partners as law_partners}
use Rattle.join_laws.proofs.Pairs.{probed_are, probed_rows}
use Rattle.join_query.specs.declared.query.Query.{Query}
use Rattle.join_model.specs.Joined.{rows_of, rows_join, rows_of_probe, nulls, with_partners}
use Rattle.join_model.specs.Refusals.{have_same_types}
use Rattle.join_tables.specs.Tables.{pairs_of, part_of}
use Rattle.join_probes.specs.Keys.{build_key, probe_key, HasKey}
use Rattle.join_probes.specs.Probed.{plan_of, build_frame_keys, pair_row, probe_part, build_part, ArePlaces, IsPair}
use Rattle.join_probes.proofs.KeyBytes.{keys_join_rows}
use Rattle.join_probes.proofs.Placed.{keys_flat, places_inside, row_at_place, rows_flat}

-- the rows of a probe row, in the words of the laws
partners_same : (keep : Bool) (schema : List Field) (p : Row) (bs : List Row) → law_partners keep (p ++ nulls schema) (λ b. p ++ b) bs ≡ with_partners keep schema p bs
partners_same true schema p [] = refl
partners_same false schema p [] = refl
partners_same keep schema p (b ∷ bs) = refl

module _ (q : Query) (morsel : Table) (build : List Table) where
  abbrev part : Key → ℕ
  part = part_of (plan_of q)

  abbrev pairs : List Pair
  pairs = pairs_of (plan_of q) (build_frame_keys q build) (map (probe_key q) morsel.rows)

  abbrev alone : Row → Row
  alone p = p ++ nulls q.build_schema

  abbrev beside : Row → Row → Row
  beside p b = p ++ b

  abbrev outer : Row → Row
  outer b = nulls q.probe_schema ++ b

  -- each pair is of rows that there are
  each_with : (keep : Bool) (i : ℕ) (xs : List RowPlace) → i < length morsel.rows → Each (IsPlace build) xs → Each (IsPair morsel build) (pairs_with keep i xs)
  each_with true i [] l h = (l, tt)
  each_with false i [] l h = tt
  each_with keep i (x ∷ xs) l h = Each-map (IsPair morsel build) (λ x. record { probe = Some i; build = Some x }) (x ∷ xs) (Each-weaker (IsPlace build) (λ x. (i < length morsel.rows) × IsPlace build x) (x ∷ xs) (λ x p. (l, p)) h)

  each_pair : Each (IsPair morsel build) pairs
  each_pair =
      let keys = map (probe_key q) morsel.rows in
      let frames = build_frame_keys q build in
      Each-flat_map (IsPair morsel build) (λ i. pairs_with q.keep_probe i (filter (λ x. keys_join bytes_eq (get_or keys i None) (key_at bytes_eq part frames x)) (all_places bytes_eq part frames))) (range_with_len 0 (length keys))
      (Each-range _ 0 (length keys) (λ i l m. each_with q.keep_probe i _ (omega (arith, m, length-map morsel.rows (probe_key q))) (Each-filter (IsPlace build) (λ x. keys_join bytes_eq (get_or keys i None) (key_at bytes_eq part frames x)) (all_places bytes_eq part frames) (places_inside q part build))))

  pub pairs_inside : All (IsPair morsel build) pairs
  pairs_inside = All-from_Each (IsPair morsel build) pairs each_pair

  -- the row of a pair, in the words of the laws
  same_joined : (o : Option ℕ) (x : Option RowPlace) → ArePlaces morsel build o x → probe_part q morsel o ++ build_part q build x ≡ joined [] morsel.rows (map (λ (t : Table). t.rows) build) alone beside outer o x
  same_joined None None h = absurd h
  same_joined (Some i) None h = refl
  same_joined None (Some x) h = ap outer (row_at_place build x)
  same_joined (Some i) (Some x) h = ap (beside (get_or morsel.rows i [])) (row_at_place build x)

  module _ (same : have_same_types q.build_schema q.build_keys q.probe_schema q.probe_keys ≡ true) (build_spelled : All (HasKey q.build_schema q.build_keys) (rows_of build)) (probe_spelled : All (HasKey q.probe_schema q.probe_keys) morsel.rows) where
    one_row : (p : Row) → HasKey q.probe_schema q.probe_keys p → law_partners q.keep_probe (alone p) (beside p) (filter (λ b. keys_join bytes_eq (probe_key q p) (build_key q b)) (flat_map (λ rows. rows) (map (λ (t : Table). t.rows) build))) ≡ rows_of_probe q (rows_of build) p
    one_row p hp =
        ap (λ (bs : List Row). law_partners q.keep_probe (alone p) (beside p) (filter (λ b. keys_join bytes_eq (probe_key q p) (build_key q b)) bs)) (rows_flat build)
        ∙ ap (law_partners q.keep_probe (alone p) (beside p)) (filter_same _ (rows_join q p) (rows_of build) (Each-weaker (HasKey q.build_schema q.build_keys) (λ b. keys_join bytes_eq (probe_key q p) (build_key q b) ≡ rows_join q p b) (rows_of build) (λ b hb. keys_join_rows q p b same hp hb) (Each-from_All (HasKey q.build_schema q.build_keys) (rows_of build) build_spelled)))
        ∙ partners_same q.keep_probe q.build_schema p (filter (rows_join q p) (rows_of build))

    -- the pairs as rows
    pub pairs_rows : map (pair_row q morsel build) pairs ≡ flat_map (rows_of_probe q (rows_of build)) morsel.rows
    pairs_rows =
        let table_rows = map (λ (t : Table). t.rows) build in
        let law : Pair → Row = law_row [] morsel.rows table_rows alone beside outer in
        map_same (pair_row q morsel build) law pairs (Each-weaker (IsPair morsel build) (λ pair. pair_row q morsel build pair ≡ law pair) pairs (λ pair h. same_joined pair.probe pair.build h) each_pair)
        ∙ ap (map law) (sym (probed_are bytes_eq bytes_eq-Decides part (build_frame_keys q build) q.keep_probe (map (probe_key q) morsel.rows)))
        ∙ ap (λ (keys : List (List Key)). map law (probed_pairs bytes_eq part keys q.keep_probe (map (probe_key q) morsel.rows))) (sym (keys_flat q build))
        ∙ probed_rows bytes_eq bytes_eq-Decides part [] morsel.rows table_rows alone beside outer (build_key q) (probe_key q) q.keep_probe
        ∙ flat_map_same _ (rows_of_probe q (rows_of build)) morsel.rows (Each-weaker (HasKey q.probe_schema q.probe_keys) _ morsel.rows one_row (Each-from_All (HasKey q.probe_schema q.probe_keys) morsel.rows probe_spelled))
