-- What the engine rests on, and the rows that it has listed so far.
use Rattle.std.specs.Prelude.{◌≡◌, ◌+◌, ◌<◌, ◌≤◌, ℕ, false, List, ◌++◌, map, filter, flat_map, length, Some, None}
use Rattle.std.specs.List.{range_with_len}
use Rattle.col_core.specs.declared.row_place.RowPlace.{RowPlace}
use Rattle.col_core.specs.Places.{row_of}
use Rattle.col_core.specs.Tables.{Row, Table}
use Rattle.list_laws.specs.Runs.{runs}
use Rattle.any_reduce.specs.Kinds.{any_shape, any_holds}
use Rattle.join_query.specs.declared.error.QueryError.{QueryError}
use Rattle.join_query.specs.declared.error.QueryError.TheVariants.{TooLarge, Memory}
use Rattle.join_query.specs.declared.query.Query.{Query}
use Rattle.join_model.specs.Answers.{joined_schema}
use Rattle.join_model.specs.Filtered.{passes}
use Rattle.join_model.specs.Joined.{nulls, is_outer, rows_of, rows_of_probe}
use Rattle.join_model.specs.Refusals.{filter_is_unsupported, has_mixed_filter, is_too_large, lacks_keys, unsupported_reduction}
use Rattle.join_laws.specs.declared.Pair.{Pair}
use Rattle.join_laws.specs.Locals.{rows_of_morsels}
use Rattle.join_tables.specs.declared.built.Built.{Built}
use Rattle.join_tables.specs.declared.error.ProbeError.{ProbeError}
use Rattle.join_tables.specs.declared.error.ProbeError.TheVariants as probes
use Rattle.join_probes.specs.Keys.{AllHave}
use Rattle.join_probes.specs.Probed.{CanJoin, HasProbed}
use Rattle.join_groups.specs.History.{HaveTaken}
use Rattle.join_engine.specs.declared.listing.Listing.{Listing}

-- there are group keys, and each reduction is one that there is
pub record CanGroup (q : Query) : Type 0 where
  pub keys : lacks_keys q ≡ false
  pub supported : unsupported_reduction q ≡ None

-- the query can join and group, the build frames have its schema, and its filter is over integers of one type
pub record CanList (q : Query) (build : List Table) : Type 0 where
  pub can_join : CanJoin q
  pub can_group : CanGroup q
  pub build_have : AllHave q.build_schema build
  pub integers : filter_is_unsupported q ≡ false
  pub one_type : has_mixed_filter q ≡ false

-- and the probe frames have theirs, and neither side is too large
pub record CanAnswer (q : Query) (build probe : List Table) : Type 0 where
  pub can_list : CanList q build
  pub probe_have : AllHave q.probe_schema probe
  pub few_build : is_too_large build ≡ false
  pub few_probe : is_too_large probe ≡ false

-- the joined rows of some probe rows
abbrev pub rows_of_probes : Query → List Table → List Row → List Row
rows_of_probes q build probed = flat_map (rows_of_probe q (rows_of build)) probed

-- the joined rows of each of some morsels of probe rows
abbrev pub rows_of_each : Query → List Table → List (List Row) → List (List Row)
rows_of_each q build ms = map (rows_of_probes q build) ms

-- of each morsel of joined rows, those that pass the filter
abbrev pub kept_of_each : Query → List (List Row) → List (List Row)
kept_of_each q ms = map (filter (passes q)) ms

-- morsels of joined rows have been listed: all rows are counted, as many as the plan allows, and those that pass the filter are kept, and grouped morsel by morsel
pub record IsListing (q : Query) (ms : List (List Row)) (listing : Listing) : Type 0 where
  pub kept : listing.kept ≡ record { schema = joined_schema q; rows = rows_of_morsels (kept_of_each q ms) }
  pub listed : listing.listed ≡ length (rows_of_morsels ms)
  pub within : length (rows_of_morsels ms) ≤ q.plan.rows
  pub morsels : listing.morsels ≡ length ms
  pub taken : HaveTaken any_shape any_holds q (kept_of_each q ms) (range_with_len 0 (length ms)) listing.locals.items

-- morsels of probe rows have been probed, and their joined rows listed
pub record HasListed (q : Query) (build : List Table) (ms : List (List Row)) (now : Built) (listing : Listing) : Type 0 where
  pub tables : HasProbed q build (rows_of_morsels ms) now
  pub rows : IsListing q (rows_of_each q build ms) listing

-- rows are too many where the plan does not allow them; of want of memory nothing is said
abbrev pub ListingFails : Query → List Row → QueryError → Type 0
ListingFails q rows TooLarge = q.plan.rows < length rows
ListingFails q rows Memory = Unit {0}
ListingFails q rows _ = ⊥

-- what has been listed, and then the joined rows of morsels more, is listed now
abbrev pub ListsMore : Query → List Table → List (List Row) → Built → Listing → Built → Listing → Type 0
ListsMore q build more old listing new after = (ms : List (List Row)) → HasListed q build ms old listing → HasListed q build (ms ++ more) new after

-- what has been listed, and then the joined rows of probe rows more, are too many
abbrev pub FailsWithMore : Query → List Table → List Row → Built → Listing → QueryError → Type 0
FailsWithMore q build rows old listing e = (ms : List (List Row)) → HasListed q build ms old listing → ListingFails q (rows_of_probes q build (rows_of_morsels ms ++ rows)) e

-- at most so many steps, and one a row that was kept
abbrev pub CostsRows : ℕ → Listing → ℕ → ℕ → Listing → Type 0
CostsRows count listing old new after = new + length listing.kept.rows ≤ old + count + length after.kept.rows

-- a probe's error as the query's
abbrev pub IsQueryErrorOf : ProbeError → QueryError → Type 0
IsQueryErrorOf probes.TooLarge e = e ≡ TooLarge
IsQueryErrorOf probes.Memory e = e ≡ Memory

-- a build row that joins no probe row, as a pair and as a joined row
abbrev pub outer_pair : RowPlace → Pair
outer_pair place = record { probe = None; build = Some place }

abbrev pub outer_row : Query → List Table → RowPlace → Row
outer_row q build place = nulls q.probe_schema ++ row_of build place

-- the joined rows of the build rows that join no probe row, where they are kept
abbrev pub outer_rows : Query → List Table → List Row → List Row
outer_rows q build probed = map (λ b. nulls q.probe_schema ++ b) (filter (is_outer q probed) (rows_of build))

-- the morsels of the probe side: each frame cut into runs
abbrev pub probe_morsels : Query → List Table → List (List Row)
probe_morsels q probe = flat_map (λ frame. runs q.plan.morsel frame.rows) probe
