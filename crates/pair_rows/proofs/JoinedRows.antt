-- The columns of both sides, gathered at the places of pairs, and the rows that they make.
use Rattle.std.proofs.Common.{◌≡◌, ℕ, ◌<◌, List, [], ◌∷◌, ◌++◌, map, length, get_or, Option, Some, None, refl, sym, ap, ap₂, ◌∙◌, subst, arith}
use Rattle.std.specs.List.{All, range_with_len}
use Rattle.std.proofs.lemmas.List.{length-map, map-append, get_or-map}
use Rattle.std.proofs.lemmas.List.FromFn.{fill_by_all}
use Rattle.std.proofs.lemmas.List.Elements.{All-get_or, All-map, All-append, All-weaker, All-cons, All-nil}
use mathlib.Core.List.{map-map}
use Rattle.list_laws.proofs.Maps.{map_agree, map_agree_on}
use Rattle.col_core.specs.declared.leaf.Leaf.{Leaf}
use Rattle.col_core.specs.declared.leaf.Leaf.TheVariants as leaves
use Rattle.col_core.specs.declared.row_place.RowPlace.{RowPlace}
use Rattle.col_core.specs.declared.schema.Field.{Field}
use Rattle.col_core.specs.Places.{no_table, row_of, IsPlace, IsPlaceIn, placed_value}
use Rattle.col_core.specs.Tables.{AreWide, Row, Table, Column, rows_from, header, values_of, no_field}
use Rattle.col_core.specs.Values.{value_at}
use Rattle.col_core.proofs.Rows.{transposed}
use Rattle.join_laws.specs.declared.Pair.{Pair}
use Rattle.join_model.specs.Answers.{joined_schema}
use Rattle.join_model.specs.Joined.{nulls}
use Rattle.join_query.specs.declared.query.Query.{Query}
use Rattle.join_query.specs.declared.query.Side.TheVariants as sides
use Rattle.join_query.specs.Names.{side_prefix}
use Rattle.join_probes.specs.Keys.{AllHave}
use Rattle.join_probes.specs.Probed.{pair_row, probe_part, build_part, ArePlaces, IsPair}
use Rattle.pair_rows.specs.Gathered.{gathered, gathered_column, probe_place}
use Rattle.pair_rows.proofs.Gathered.{headers_gathered, long_gathered}

-- a row is its values
row_whole : (row : Row) (width : ℕ) → length row ≡ width → map (value_at row) (range_with_len 0 width) ≡ row
row_whole row width h = sym (fill_by_all (value_at row) row width leaves.Null h (λ k l. refl))

-- a row of nulls is a null for each field
nulls_whole : (schema : List Field) → map (λ (c : ℕ). leaves.Null) (range_with_len 0 (length schema)) ≡ nulls schema
nulls_whole schema = sym (fill_by_all (λ (c : ℕ). leaves.Null) (nulls schema) (length schema) leaves.Null (length-map schema (λ (f : Field). leaves.Null)) (λ k l. get_or-map (λ (f : Field). leaves.Null) schema k no_field leaves.Null l))

-- the row at a place of frames of a schema, and nulls where there is none
abbrev placed_row : List Field → List Table → Option RowPlace → Row
placed_row schema frames None = nulls schema
placed_row schema frames (Some place) = row_of frames place

-- a row at a place is as wide as the schema
wide_at : (schema : List Field) (frames : List Table) (place : RowPlace) → AllHave schema frames → All AreWide frames → IsPlace frames place → length (row_of frames place) ≡ length schema
wide_at schema frames place have wide inside =
    let table = get_or frames place.frame no_table in
    All-get_or (λ (row : Row). length row ≡ length table.schema) table.rows place.row [] inside.row (All-get_or AreWide frames place.frame no_table inside.frame wide)
    ∙ ap length (All-get_or (λ (t : Table). t.schema ≡ schema) frames place.frame no_table inside.frame have)

-- its values, column by column
placed_whole : (schema : List Field) (frames : List Table) (place : Option RowPlace) → AllHave schema frames → All AreWide frames → IsPlaceIn frames place → map (λ c. placed_value frames c place) (range_with_len 0 (length schema)) ≡ placed_row schema frames place
placed_whole schema frames None have wide inside = nulls_whole schema
placed_whole schema frames (Some place) have wide inside = row_whole (row_of frames place) (length schema) (wide_at schema frames place have wide inside)

module _ (q : Query) (morsel : Table) (build : List Table) where
  abbrev build_place : Pair → Option RowPlace
  build_place pair = pair.build

  -- the places of a pair that is one
  pair_inside : (probe : Option ℕ) (place : Option RowPlace) → ArePlaces morsel build probe place → IsPlaceIn (morsel ∷ []) (probe_place (record { probe = probe; build = place })) × IsPlaceIn build place
  pair_inside None None h = absurd h
  pair_inside (Some i) None h = (record { frame = grind arith; row = h }, tt)
  pair_inside None (Some place) h = (tt, h)
  pair_inside (Some i) (Some place) h = (record { frame = grind arith; row = h.0 }, h.1)

  pub probe_inside : (pairs : List Pair) → All (IsPair morsel build) pairs → All (IsPlaceIn (morsel ∷ [])) (map probe_place pairs)
  probe_inside pairs inside = All-map (IsPlaceIn (morsel ∷ [])) probe_place pairs (All-weaker (IsPair morsel build) (λ (pair : Pair). IsPlaceIn (morsel ∷ []) (probe_place pair)) (λ pair h. (pair_inside pair.probe pair.build h).0) pairs inside)

  pub build_inside : (pairs : List Pair) → All (IsPair morsel build) pairs → All (IsPlaceIn build) (map build_place pairs)
  build_inside pairs inside = All-map (IsPlaceIn build) build_place pairs (All-weaker (IsPair morsel build) (λ (pair : Pair). IsPlaceIn build pair.build) (λ pair h. (pair_inside pair.probe pair.build h).1) pairs inside)

  -- the parts of its row
  probe_row_is : (probe : Option ℕ) (place : Option RowPlace) → placed_row q.probe_schema (morsel ∷ []) (probe_place (record { probe = probe; build = place })) ≡ probe_part q morsel probe
  probe_row_is None place = refl
  probe_row_is (Some i) place = refl

  build_row_is : (place : Option RowPlace) → placed_row q.build_schema build place ≡ build_part q build place
  build_row_is None = refl
  build_row_is (Some place) = refl

  module _ (pairs : List Pair) where
    abbrev front : List Column
    front = gathered (side_prefix sides.Probe) q.probe_schema (morsel ∷ []) (map probe_place pairs)

    abbrev back : List Column
    back = gathered (side_prefix sides.Build) q.build_schema build (map build_place pairs)

    abbrev pub joined_columns : List Column
    joined_columns = front ++ back

    pub long_columns : All (λ (c : Column). length c.values ≡ length pairs) joined_columns
    long_columns =
        let Long : ℕ → Column → Type 0 = λ n c. length c.values ≡ n in
        All-append (Long (length pairs)) front back
        (subst (λ (n : ℕ). All (Long n) front) (length-map pairs probe_place) (long_gathered (side_prefix sides.Probe) q.probe_schema (morsel ∷ []) (map probe_place pairs)))
        (subst (λ (n : ℕ). All (Long n) back) (length-map pairs build_place) (long_gathered (side_prefix sides.Build) q.build_schema build (map build_place pairs)))

    -- the headers of both sides
    pub joined_headers : map header joined_columns ≡ joined_schema q
    joined_headers = map-append header front back
        ∙ ap₂ (λ (fs gs : List Field). fs ++ gs) (headers_gathered (side_prefix sides.Probe) q.probe_schema (morsel ∷ []) (map probe_place pairs)) (headers_gathered (side_prefix sides.Build) q.build_schema build (map build_place pairs))

    -- what is read of a pair for each column of a side
    abbrev readers : List Field → List Table → (Pair → Option RowPlace) → List (Pair → Leaf)
    readers schema frames side = map (λ c pair. placed_value frames c (side pair)) (range_with_len 0 (length schema))

    -- one side's values, pair by pair
    values_side : (prefix : List ℕ) (schema : List Field) (frames : List Table) (side : Pair → Option RowPlace)
        → values_of (gathered prefix schema frames (map side pairs)) ≡ map (λ (f : Pair → Leaf). map f pairs) (readers schema frames side)
    values_side prefix schema frames side =
        map-map (λ (c : Column). c.values) (gathered_column prefix schema frames (map side pairs)) (range_with_len 0 (length schema))
        ∙ map_agree (λ c. map (placed_value frames c) (map side pairs)) (λ c. map (λ pair. placed_value frames c (side pair)) pairs) (λ c. map-map (placed_value frames c) side pairs) (range_with_len 0 (length schema))
        ∙ sym (map-map (λ (f : Pair → Leaf). map f pairs) (λ c pair. placed_value frames c (side pair)) (range_with_len 0 (length schema)))

    abbrev both : List (Pair → Leaf)
    both = readers q.probe_schema (morsel ∷ []) probe_place ++ readers q.build_schema build build_place

    values_both : values_of joined_columns ≡ map (λ (f : Pair → Leaf). map f pairs) both
    values_both =
        map-append (λ (c : Column). c.values) front back
        ∙ ap₂ (λ (xs ys : List (List Leaf)). xs ++ ys) (values_side (side_prefix sides.Probe) q.probe_schema (morsel ∷ []) probe_place) (values_side (side_prefix sides.Build) q.build_schema build build_place)
        ∙ sym (map-append (λ (f : Pair → Leaf). map f pairs) (readers q.probe_schema (morsel ∷ []) probe_place) (readers q.build_schema build build_place))

    -- one side's row of a pair
    row_side : (schema : List Field) (frames : List Table) (side : Pair → Option RowPlace) (pair : Pair) → AllHave schema frames → All AreWide frames → IsPlaceIn frames (side pair)
        → map (λ (f : Pair → Leaf). f pair) (readers schema frames side) ≡ placed_row schema frames (side pair)
    row_side schema frames side pair have wide inside =
        map-map (λ (f : Pair → Leaf). f pair) (λ c pair. placed_value frames c (side pair)) (range_with_len 0 (length schema))
        ∙ placed_whole schema frames (side pair) have wide inside

    -- the joined columns are the pairs' rows
    pub joined_rows : morsel.schema ≡ q.probe_schema → AreWide morsel → AllHave q.build_schema build → All AreWide build → All (IsPair morsel build) pairs → rows_from (length pairs) (values_of joined_columns) ≡ map (pair_row q morsel build) pairs
    joined_rows same wide_p have wide_b inside =
        ap (rows_from (length pairs)) values_both
        ∙ transposed (λ (f : Pair → Leaf) (pair : Pair). f pair) both pairs
        ∙ map_agree_on (λ pair. map (λ (f : Pair → Leaf). f pair) both) (pair_row q morsel build) pairs each
      where
        have_p : AllHave q.probe_schema (morsel ∷ [])
        have_p = All-cons (λ (t : Table). t.schema ≡ q.probe_schema) morsel [] same (All-nil (λ (t : Table). t.schema ≡ q.probe_schema))

        all_wide : All AreWide (morsel ∷ [])
        all_wide = All-cons AreWide morsel [] wide_p (All-nil AreWide)

        each : (k : ℕ) (d : Pair) → k < length pairs → map (λ (f : Pair → Leaf). f (get_or pairs k d)) both ≡ pair_row q morsel build (get_or pairs k d)
        each k d l =
            let pair = get_or pairs k d in
            let is = pair_inside pair.probe pair.build (All-get_or (IsPair morsel build) pairs k d l inside) in
            map-append (λ (f : Pair → Leaf). f pair) (readers q.probe_schema (morsel ∷ []) probe_place) (readers q.build_schema build build_place)
            ∙ ap₂ (λ (xs ys : List Leaf). xs ++ ys)
            (row_side q.probe_schema (morsel ∷ []) probe_place pair have_p all_wide is.0 ∙ probe_row_is pair.probe pair.build)
            (row_side q.build_schema build build_place pair have wide_b is.1 ∙ build_row_is pair.build)

    -- columns that were appended side by side are those of both sides
    pub columns_are : (frames : List Table) (probes builds : List (Option RowPlace)) (before first all : List Column) (front_name back_name : List ℕ) → frames ≡ morsel ∷ [] → probes ≡ map probe_place pairs → builds ≡ map build_place pairs
        → front_name ≡ side_prefix sides.Probe → back_name ≡ side_prefix sides.Build → before ≡ [] → first ≡ before ++ gathered front_name q.probe_schema frames probes → all ≡ first ++ gathered back_name q.build_schema build builds → all ≡ joined_columns
    columns_are frames probes builds before first all front_name back_name m p b f k none one two =
        two ∙ rw (one, none, m, p, b, f, k) refl

    -- and make the table of the pairs' rows
    pub table_is : (all : List Column) → all ≡ joined_columns → morsel.schema ≡ q.probe_schema → AreWide morsel → AllHave q.build_schema build → All AreWide build → All (IsPair morsel build) pairs
        → ◌≡◌ {A = Table} (record { schema = map header all; rows = rows_from (length pairs) (values_of all) }) (record { schema = joined_schema q; rows = map (pair_row q morsel build) pairs })
    table_is all e same wide_p have_b wide_b inside =
        let table : List Field → List Row → Table = λ schema rows. record { schema = schema; rows = rows } in
        ap (λ (cs : List Column). table (map header cs) (rows_from (length pairs) (values_of cs))) e
        ∙ ap₂ table joined_headers (joined_rows same wide_p have_b wide_b inside)
