-- The listed morsels, as more rows are probed.
use Rattle.std.proofs.Common.{◌≡◌, ℕ, ◌+◌, ◌-◌, ◌<◌, ◌≤◌, ◌%◌, ◌^◌, ◌&&◌, Bool, true, false, cond, List, [], ◌∷◌, ◌++◌, map, filter, flat_map, length, None, refl, sym, ap, ◌∙◌, subst, subst₂, arith, inl, inr, ◌⊎◌}
use Rattle.std.specs.List.{All, range_with_len}
use Rattle.std.proofs.lemmas.Bool.{lt-ltb}
use Rattle.std.proofs.lemmas.List.{append_assoc, length-append, length-map, map-append}
use Rattle.std.proofs.lemmas.List.Concat.{flat_map-append}
use Rattle.std.proofs.lemmas.List.Elements.{All-map}
use mathlib.Core.List.{map-map}
use Rattle.list_laws.specs.Each.{Each}
use Rattle.list_laws.specs.Places.{ChangedAt}
use Rattle.list_laws.specs.Runs.{runs}
use Rattle.list_laws.proofs.Each.{Each-all, Each-from_All}
use Rattle.list_laws.proofs.Filters.{filter-none, filter-all, filter_same}
use Rattle.col_core.specs.declared.row_place.RowPlace.{RowPlace}
use Rattle.col_core.specs.Places.{row_of, IsPlace}
use Rattle.col_core.specs.Tables.{Row, Table}
use Rattle.any_reduce.specs.Kinds.{any_shape, any_holds}
use Rattle.any_reduce.specs.declared.any.AnyReduction.{AnyReduction}
use Rattle.group_locals.specs.declared.local.LocalState.{LocalState}
use Rattle.group_locals.specs.Locals.{AreFresh, LocalTakes, LocalsFit, kept}
use Rattle.group_locals.specs.History.{LocalHolds}
use Rattle.join_query.specs.declared.error.QueryError.{QueryError}
use Rattle.join_query.specs.declared.error.QueryError.TheVariants.{NoKeyColumns, UnknownColumn, SchemaMismatch, UnsupportedReduction, UnsupportedFilter, BadPlan, TooLarge, Memory}
use Rattle.join_query.specs.declared.limits.TheConstants.{MAX_ROWS}
use Rattle.join_query.specs.declared.query.Plan.{Plan}
use Rattle.join_query.specs.declared.query.Query.{Query}
use Rattle.join_laws.specs.declared.Pair.{Pair}
use Rattle.join_laws.specs.Locals.{entries_from, rows_of_morsels}
use Rattle.join_laws.specs.Outer.{is_outer}
use Rattle.join_model.specs.Answers.{joined_schema}
use Rattle.join_model.specs.Filtered.{passes}
use Rattle.join_model.specs.Joined.{nulls, rows_of, rows_of_probe, joined_rows}
use Rattle.join_model.specs.Joined.{is_outer as is_outer_row}
use Rattle.join_model.specs.Refusals.{is_good_plan, lists_too_many}
use Rattle.join_tables.specs.declared.built.Built.{Built}
use Rattle.join_tables.specs.declared.error.ProbeError.{ProbeError}
use Rattle.join_tables.specs.declared.error.ProbeError.TheVariants as probes
use Rattle.join_probes.specs.Keys.{build_key}
use Rattle.join_probes.specs.Probed.{is_joined, is_unmatched, pair_row, CanJoin, HasProbed, IsPair, MorselFails}
use Rattle.join_probes.proofs.Probes.{unmatched_are}
use Rattle.join_groups.specs.Keyed.{HasGroup, grouping_of_query, keyed_row}
use Rattle.join_groups.specs.History.{HaveTaken}
use Rattle.join_groups.proofs.Taken.{next_fresh, none_taken, taken_next}
use Rattle.join_engine.specs.Listed.{kept_of_each, outer_pair, outer_row, outer_rows, rows_of_each, rows_of_probes, IsListing, IsQueryErrorOf, ListingFails}
use Rattle.join_engine.specs.declared.listing.Listing.{Listing}
use Rattle.join_engine.proofs.Cuts.{runs_cut, runs_map}
use Rattle.join_engine.proofs.Fronts.{all_middle}
use Rattle.join_engine.proofs.MorselRows.{rows_given, rows_mapped, rows_more, rows_passing}

-- without a filter all rows are kept
pub all_kept : (q : Query) (rows : List Row) → q.filter ≡ None → filter (passes q) rows ≡ rows
all_kept q rows h = filter-all (passes q) (λ row. rw h refl) rows

-- what a good plan bounds
pub good_rows : (plan : Plan) → is_good_plan plan ≡ true → plan.rows ≤ MAX_ROWS
good_rows plan h = grind arith

pub good_morsel : (plan : Plan) → is_good_plan plan ≡ true → 0 < plan.morsel
good_morsel plan h = grind arith

pub good_states : (plan : Plan) → is_good_plan plan ≡ true → 0 < plan.states
good_states plan h = grind arith

-- fewer rows pass than there are
pub fewer_pass : (p : Row → Bool) (rows : List Row) → length (filter p rows) ≤ length rows
fewer_pass p [] = omega arith
fewer_pass p (row ∷ rows) =
    let on = fewer_pass p rows in
    elim (p row) as (λ (b : Bool). length (cond b (row ∷ filter p rows) (filter p rows)) ≤ length (row ∷ rows)) [
      | true ↦ omega (arith, on)
      | false ↦ omega (arith, on)
    ]

-- no rows are listed yet
pub no_listing : (q : Query) (listing : Listing) → listing.kept ≡ record { schema = joined_schema q; rows = [] } → listing.listed ≡ 0 → listing.morsels ≡ 0 → length listing.locals.items ≡ q.plan.states
    → LocalsFit any_shape (grouping_of_query q) listing.locals.items → Each (LocalHolds any_holds (grouping_of_query q) []) listing.locals.items → IsListing q [] listing
no_listing q listing kept listed morsels count fit new = record { kept = kept; listed = listed; within = omega arith; morsels = morsels; taken = none_taken any_shape any_holds q [] listing.locals.items count fit new }

module _ (q : Query) (ms : List (List Row)) (listing : Listing) (h : IsListing q ms listing) where
  -- the local states have taken the kept rows of each morsel
  have : HaveTaken any_shape any_holds q (kept_of_each q ms) (range_with_len 0 (length (kept_of_each q ms))) listing.locals.items
  have = subst (λ (n : ℕ). HaveTaken any_shape any_holds q (kept_of_each q ms) (range_with_len 0 n) listing.locals.items) (sym (length-map ms (filter (passes q)))) h.taken

  number : length (kept_of_each q ms) ≡ listing.morsels
  number = length-map ms (filter (passes q)) ∙ sym h.morsels

  height : length (rows_of_morsels (kept_of_each q ms)) ≡ length listing.kept.rows
  height = ap (λ (t : Table). length t.rows) (sym h.kept)

  -- there is one
  pub some_locals : is_good_plan q.plan ≡ true → 0 < length listing.locals.items
  some_locals good = omega (arith, h.taken.count, good_states q.plan good)

  -- there is room for the rows that pass, and numbers for them
  pub few_kept : (new passing : List Row) → passing ≡ filter (passes q) new → listing.listed + length new ≤ q.plan.rows → is_good_plan q.plan ≡ true → length listing.kept.rows + length passing < 2 ^ 32
  few_kept new passing e few good =
      omega (arith, h.listed, height, ap length (rows_passing (passes q) ms), fewer_pass (passes q) (rows_of_morsels ms), ap length e, fewer_pass (passes q) new, few, good_rows q.plan good)

  -- which no row has had
  pub fresh_rows : (passing : List Row) (olds : List (LocalState AnyReduction)) → olds ≡ listing.locals.items → AreFresh (length listing.kept.rows) (length passing) (flat_map kept olds)
  fresh_rows passing olds same =
      subst (λ (ls : List (LocalState AnyReduction)). AreFresh (length listing.kept.rows) (length passing) (flat_map kept ls)) (sym same)
      (subst (λ (n : ℕ). AreFresh n (length passing) (flat_map kept listing.locals.items)) height (next_fresh any_shape any_holds q (kept_of_each q ms) passing listing.locals.items have))

  -- what passes of each morsel, and of one more
  kept_more : (new passing : List Row) → passing ≡ filter (passes q) new → kept_of_each q ms ++ passing ∷ [] ≡ kept_of_each q (ms ++ new ∷ [])
  kept_more new passing e = ap (λ (rows : List Row). kept_of_each q ms ++ rows ∷ []) e ∙ sym (map-append (filter (passes q)) ms (new ∷ []))

  module _ (new passing : List Row) (e : passing ≡ filter (passes q) new) (olds : List (LocalState AnyReduction)) (same : olds ≡ listing.locals.items) where
    -- the rows that pass have entered the next local state
    abbrev pub HaveEntered : List (LocalState AnyReduction) → Type 0
    HaveEntered news = ChangedAt (LocalTakes any_shape any_holds (entries_from listing.morsels (length listing.kept.rows) (map (keyed_row q) passing))) (listing.morsels % length olds) olds news

    taken_more : (news : List (LocalState AnyReduction)) → HaveEntered news → LocalsFit any_shape (grouping_of_query q) news → All (HasGroup q) passing → HaveTaken any_shape any_holds q (kept_of_each q (ms ++ new ∷ [])) (range_with_len 0 (length (ms ++ new ∷ []))) news
    taken_more news changed fit spelled =
        let entered : (i n : ℕ) (ls : List (LocalState AnyReduction)) → Type 0 = λ i n ls. ChangedAt (LocalTakes any_shape any_holds (entries_from i n (map (keyed_row q) passing))) (i % length ls) ls news in
        let here : entered listing.morsels (length listing.kept.rows) listing.locals.items = subst (entered listing.morsels (length listing.kept.rows)) same changed in
        let kept_now = kept_of_each q ms ++ passing ∷ [] in
        let next : HaveTaken any_shape any_holds q kept_now (range_with_len 0 (length kept_now)) news =
        taken_next any_shape any_holds q (kept_of_each q ms) passing listing.locals.items have news
        (subst₂ (λ (i n : ℕ). entered i n listing.locals.items) (sym number) (sym height) here)
        fit (Each-from_All (HasGroup q) passing spelled) in
        subst (λ (n : ℕ). HaveTaken any_shape any_holds q (kept_of_each q (ms ++ new ∷ [])) (range_with_len 0 n) news) (length-map (ms ++ new ∷ []) (filter (passes q)))
        (subst (λ (rows : List (List Row)). HaveTaken any_shape any_holds q rows (range_with_len 0 (length rows)) news) (kept_more new passing e) next)

    -- the rows of a morsel more are listed
    pub more_listed : (news : List (LocalState AnyReduction)) (after : Listing) → after.kept ≡ record { schema = listing.kept.schema; rows = listing.kept.rows ++ passing } → after.listed ≡ listing.listed + length new → after.morsels ≡ listing.morsels + 1
        → after.locals.items ≡ news → listing.listed + length new ≤ q.plan.rows → HaveEntered news → LocalsFit any_shape (grouping_of_query q) news → All (HasGroup q) passing → IsListing q (ms ++ new ∷ []) after
    more_listed news after k n m ls few changed fit spelled =
        let table : List Row → Table = λ rs. record { schema = joined_schema q; rows = rs } in
        let long = ap length (rows_more ms new) in
        record {
          kept = k
              ∙ ap (λ (t : Table). record { schema = t.schema; rows = t.rows ++ passing }) h.kept
              ∙ ap table (sym (rows_more (kept_of_each q ms) passing) ∙ ap rows_of_morsels (kept_more new passing e));
          listed = omega (arith, n, h.listed, long, length-append (rows_of_morsels ms) new);
          within = omega (arith, h.listed, few, long, length-append (rows_of_morsels ms) new);
          morsels = omega (arith, m, h.morsels, length-append ms (new ∷ []));
          taken = subst (HaveTaken any_shape any_holds q (kept_of_each q (ms ++ new ∷ [])) (range_with_len 0 (length (ms ++ new ∷ [])))) (sym ls) (taken_more news changed fit spelled);
        }

-- the joined rows of probe rows more
pub probes_more : (q : Query) (build : List Table) (probed rows : List Row) → rows_of_probes q build (probed ++ rows) ≡ rows_of_probes q build probed ++ rows_of_probes q build rows
probes_more q build [] rows = refl
probes_more q build (p ∷ probed) rows =
    ap (λ (xs : List Row). rows_of_probe q (rows_of build) p ++ xs) (probes_more q build probed rows)
    ∙ sym (append_assoc (rows_of_probe q (rows_of build) p) (rows_of_probes q build probed) (rows_of_probes q build rows))

-- the pairs of a morsel are listed
pub morsel_listed : (q : Query) (build : List Table) (ms : List (List Row)) (rows : List Row) (pairs : List Pair) (gives : Pair → Row) (after : Listing) → map gives pairs ≡ rows_of_probes q build rows
    → IsListing q (rows_of_each q build ms ++ map gives pairs ∷ []) after → IsListing q (rows_of_each q build (ms ++ rows ∷ [])) after
morsel_listed q build ms rows pairs gives after are h =
    subst (λ (joined : List (List Row)). IsListing q joined after) (ap (λ (m : List Row). rows_of_each q build ms ++ m ∷ []) are ∙ sym (map-append (rows_of_probes q build) ms (rows ∷ []))) h

-- too many rows of a morsel are too many in all
pub morsel_fails : (q : Query) (build : List Table) (ms : List (List Row)) (rows : List Row) (listing : Listing) (p : ProbeError) (e : QueryError) → IsListing q (rows_of_each q build ms) listing
    → MorselFails (q.plan.rows - listing.listed) (rows_of_probes q build rows) p → IsQueryErrorOf p e → ListingFails q (rows_of_probes q build (rows_of_morsels ms ++ rows)) e
morsel_fails q build ms rows listing probes.TooLarge e h f is =
    let probed = rows_of_morsels ms in
    subst (ListingFails q (rows_of_probes q build (probed ++ rows))) (sym is)
    (omega (arith, f, h.listed, h.within, ap length (rows_given (rows_of_probe q (rows_of build)) ms), ap length (probes_more q build probed rows), length-append (rows_of_probes q build probed) (rows_of_probes q build rows)))
morsel_fails q build ms rows listing probes.Memory e h f is = subst (ListingFails q (rows_of_probes q build (rows_of_morsels ms ++ rows))) (sym is) tt

-- what is too many in a front is too many in all
pub fails_front : (q : Query) (front rest whole : List Row) (e : QueryError) → whole ≡ front ++ rest → ListingFails q front e → ListingFails q whole e
fails_front q front rest whole TooLarge is h = omega (arith, h, ap length is, length-append front rest)
fails_front q front rest whole Memory is h = tt
fails_front q front rest whole NoKeyColumns is h = h
fails_front q front rest whole (UnknownColumn position) is h = h
fails_front q front rest whole SchemaMismatch is h = h
fails_front q front rest whole (UnsupportedReduction index) is h = h
fails_front q front rest whole UnsupportedFilter is h = h
fails_front q front rest whole BadPlan is h = h

-- too many rows of a front of the probe rows are too many in all
pub fails_with_more : (q : Query) (build : List Table) (front rest whole : List Row) (e : QueryError) → whole ≡ front ++ rest → ListingFails q (rows_of_probes q build front) e → ListingFails q (rows_of_probes q build whole) e
fails_with_more q build front rest whole e is h = fails_front q (rows_of_probes q build front) (rows_of_probes q build rest) (rows_of_probes q build whole) e (ap (rows_of_probes q build) is ∙ probes_more q build front rest) h

-- and is the cause of a refusal
pub fails_cause : (q : Query) (build probe : List Table) (e : QueryError) → ListingFails q (joined_rows q (rows_of build) (rows_of probe)) e → (e ≡ Memory) ⊎ ((e ≡ TooLarge) × (lists_too_many q build probe ≡ true))
fails_cause q build probe TooLarge h = inr (refl, lt-ltb q.plan.rows (length (joined_rows q (rows_of build) (rows_of probe))) h)
fails_cause q build probe Memory h = inl refl
fails_cause q build probe NoKeyColumns h = absurd h
fails_cause q build probe (UnknownColumn position) h = absurd h
fails_cause q build probe SchemaMismatch h = absurd h
fails_cause q build probe (UnsupportedReduction index) h = absurd h
fails_cause q build probe UnsupportedFilter h = absurd h
fails_cause q build probe BadPlan h = absurd h

-- where outer build rows are not kept there is none
pub none_outer : (q : Query) (build : List Table) (probed : List Row) → q.keep_build ≡ false → outer_rows q build probed ≡ []
none_outer q build probed h =
    ap (λ (bs : List Row). map (λ (b : Row). nulls q.probe_schema ++ b) bs)
    (filter-none (is_outer_row q probed) (λ b. ap (λ (keep : Bool). keep && is_unmatched q probed b) h) (rows_of build))

-- where they are kept, they are those at some places
pub with_outer : (q : Query) (build : List Table) (probed : List Row) (places : List RowPlace) → q.keep_build ≡ true → map (row_of build) places ≡ filter (is_unmatched q probed) (rows_of build) → outer_rows q build probed ≡ map (outer_row q build) places
with_outer q build probed places h are =
    ap (λ (bs : List Row). map (λ (b : Row). nulls q.probe_schema ++ b) bs)
    (filter_same (is_outer_row q probed) (is_unmatched q probed) (rows_of build) (Each-all (λ b. is_outer_row q probed b ≡ is_unmatched q probed b) (rows_of build) (λ b. ap (λ (keep : Bool). keep && is_unmatched q probed b) h)) ∙ sym are)
    ∙ map-map (λ (b : Row). nulls q.probe_schema ++ b) (row_of build) places

module _ (q : Query) (build : List Table) (places chunk rest : List RowPlace) (done : List (List RowPlace)) (some : 0 < q.plan.morsel) (cut : runs q.plan.morsel places ≡ done ++ runs q.plan.morsel (chunk ++ rest)) where
  whole : places ≡ rows_of_morsels done ++ (chunk ++ rest)
  whole = runs_cut q.plan.morsel places (chunk ++ rest) done some cut

  -- places in the middle, as pairs
  pub outer_inside : (none : Table) → All (IsPlace build) places → All (IsPair none build) (map outer_pair chunk)
  outer_inside none all = All-map (IsPair none build) outer_pair chunk (all_middle (IsPlace build) (rows_of_morsels done) chunk rest (subst (All (IsPlace build)) whole all))

  -- they are not too many
  pub few_outer : (ms : List (List Row)) (old now : Listing) → IsListing q ms old → IsListing q (ms ++ map (map (outer_row q build)) done) now → old.listed + length places ≤ q.plan.rows → now.listed + length chunk ≤ q.plan.rows
  few_outer ms old now h k few =
      let front = rows_of_morsels ms in
      let listed = map (map (outer_row q build)) done in
      let rows = rows_of_morsels done in
      omega (arith, few, h.listed, k.listed, ap length (flat_map-append (λ (m : List Row). m) ms listed), length-append front (rows_of_morsels listed), ap length (rows_mapped (outer_row q build) done), length-map rows (outer_row q build), ap length whole, length-append rows (chunk ++ rest), length-append chunk rest)

  -- and are listed after the others
  pub outer_more : (none : Table) (ms : List (List Row)) (pairs : List Pair) (after : Listing) → pairs ≡ map outer_pair chunk
      → IsListing q ((ms ++ map (map (outer_row q build)) done) ++ map (pair_row q none build) pairs ∷ []) after → IsListing q (ms ++ map (map (outer_row q build)) (done ++ chunk ∷ [])) after
  outer_more none ms pairs after are h =
      let listed = map (map (outer_row q build)) done in
      subst (λ (joined : List (List Row)). IsListing q joined after)
      (ap (λ (ps : List Pair). (ms ++ listed) ++ map (pair_row q none build) ps ∷ []) are
      ∙ ap (λ (m : List Row). (ms ++ listed) ++ m ∷ []) (map-map (pair_row q none build) outer_pair chunk)
      ∙ append_assoc ms listed (map (outer_row q build) chunk ∷ [])
      ∙ ap (λ (joined : List (List Row)). ms ++ joined) (sym (map-append (map (outer_row q build)) done (chunk ∷ [])))) h

-- all of them are listed
pub outer_listed : (q : Query) (build : List Table) (places : List RowPlace) (done : List (List RowPlace)) (ms : List (List Row)) (after : Listing) → runs q.plan.morsel places ≡ done
    → IsListing q (ms ++ map (map (outer_row q build)) done) after → IsListing q (ms ++ runs q.plan.morsel (map (outer_row q build) places)) after
outer_listed q build places done ms after are h =
    subst (λ (joined : List (List Row)). IsListing q (ms ++ joined) after) (sym (runs_map (outer_row q build) q.plan.morsel places ∙ ap (map (map (outer_row q build))) are)) h

-- the places of the outer build rows, as the tables tell them
pub outer_told : (q : Query) (build : List Table) (probed : List Row) (places : List RowPlace) (now : Built) → CanJoin q → HasProbed q build probed now → q.keep_build ≡ true
    → map (row_of build) places ≡ filter (λ b. is_outer (is_joined q probed) (build_key q b)) (rows_of build) → outer_rows q build probed ≡ map (outer_row q build) places
outer_told q build probed places now can h keep are = with_outer q build probed places keep (are ∙ unmatched_are q build probed now can h)

-- outer rows that are too many are too many in all
pub outer_fails : (q : Query) (build : List Table) (ms : List (List Row)) (places : List RowPlace) (listing : Listing) → IsListing q (rows_of_each q build ms) listing
    → outer_rows q build (rows_of_morsels ms) ≡ map (outer_row q build) places → q.plan.rows - listing.listed < length places → q.plan.rows < length (joined_rows q (rows_of build) (rows_of_morsels ms))
outer_fails q build ms places listing h are many =
    let probed = rows_of_morsels ms in
    omega (arith, many, h.listed, h.within, ap length (rows_given (rows_of_probe q (rows_of build)) ms), ap length are, length-append (rows_of_probes q build probed) (outer_rows q build probed), length-map places (outer_row q build))
