-- What the tables of a query stand for, and what probes of them give.
use Rattle.std.specs.Prelude.{◌≡◌, ◌<◌, ℕ, Bool, true, ◌||◌, not, List, [], ◌++◌, map, length, Option, Some, None, slice_index_or}
use Rattle.std.specs.List.{All, list_any}
use Rattle.col_core.specs.declared.row_place.RowPlace.{RowPlace}
use Rattle.col_core.specs.Places.{row_of, IsPlace}
use Rattle.col_core.specs.Tables.{Row, Table}
use Rattle.hash_keys.specs.Keys.{Key}
use Rattle.chunked_idx_table.specs.Probes.{joins_any}
use Rattle.join_laws.specs.declared.Pair.{Pair}
use Rattle.join_tables.specs.declared.built.Built.{Built}
use Rattle.join_tables.specs.declared.error.ProbeError.{ProbeError}
use Rattle.join_tables.specs.declared.error.ProbeError.TheVariants.{TooLarge, Memory}
use Rattle.join_tables.specs.declared.plan.TablePlan.{TablePlan}
use Rattle.join_tables.specs.Tables.{StandsFor}
use Rattle.join_query.specs.declared.query.Query.{Query}
use Rattle.join_model.specs.Joined.{rows_of, rows_join, nulls}
use Rattle.join_model.specs.Refusals.{unknown_column, have_same_types, is_good_plan}
use Rattle.join_probes.specs.Keys.{build_key, probe_key, HasKey}

-- the sides have the columns of the keys, of the same types place by place, and the plan is good
pub record CanJoin (q : Query) : Type 0 where
  pub known : unknown_column q ≡ None
  pub types : have_same_types q.build_schema q.build_keys q.probe_schema q.probe_keys ≡ true
  pub plan : is_good_plan q.plan ≡ true

-- how the tables of a query are built and probed
abbrev pub plan_of : Query → TablePlan
plan_of q = record {
  state = record { seed = q.plan.seed; mask = q.plan.mask };
  partitioner = record { partitions = q.plan.partitions; factor = q.plan.pseed };
  limit = q.plan.limit;
  keep_probe = q.keep_probe;
}

-- the keys of each build frame
abbrev pub build_frame_keys : Query → List Table → List (List Key)
build_frame_keys q build = map (λ frame. map (build_key q) frame.rows) build

-- a key joins one of some probe rows
abbrev pub is_joined : Query → List Row → List ℕ → Bool
is_joined q probed key = joins_any (map (probe_key q) probed) key

-- tables and places are those of build frames, under marks that are a test of the key; the build rows have keys
pub record IsBuilt (q : Query) (build : List Table) (marked : List ℕ → Bool) (built : Built) : Type 0 where
  pub stands : StandsFor (plan_of q) (build_frame_keys q build) marked built
  pub build_keys : All (HasKey q.build_schema q.build_keys) (rows_of build)

-- they are, but for some keys that are marked more, all of which some probe rows join
pub record IsBuiltMore (q : Query) (build : List Table) (marked : List ℕ → Bool) (rows : List Row) (now : Built) : Type 0 where
  pub more : List ℕ → Bool
  pub joined : (k : List ℕ) → more k ≡ true → is_joined q rows k ≡ true
  pub built : IsBuilt q build (λ k. marked k || more k) now

-- they are, and the marked keys are those that the rows that have been probed join
pub record HasProbed (q : Query) (build : List Table) (probed : List Row) (now : Built) : Type 0 where
  pub built : IsBuilt q build (is_joined q probed) now
  pub spelled : All (HasKey q.probe_schema q.probe_keys) probed

-- the row of the build side that is part of a pair, and that of a morsel; nulls where there is none
abbrev pub build_part : Query → List Table → Option RowPlace → Row
build_part q build None = nulls q.build_schema
build_part q build (Some place) = row_of build place

abbrev pub probe_part : Query → Table → Option ℕ → Row
probe_part q morsel None = nulls q.probe_schema
probe_part q morsel (Some i) = slice_index_or morsel.rows i []

-- the joined row of a pair
abbrev pub pair_row : Query → Table → List Table → Pair → Row
pair_row q morsel build pair = probe_part q morsel pair.probe ++ build_part q build pair.build

-- a pair is of a row of a morsel, or a build row, or both
abbrev pub ArePlaces : Table → List Table → Option ℕ → Option RowPlace → Type 0
ArePlaces morsel build None None = ⊥
ArePlaces morsel build (Some i) None = i < length morsel.rows
ArePlaces morsel build None (Some place) = IsPlace build place
ArePlaces morsel build (Some i) (Some place) = (i < length morsel.rows) × IsPlace build place

abbrev pub IsPair : Table → List Table → Pair → Type 0
IsPair morsel build pair = ArePlaces morsel build pair.probe pair.build

-- a build row that none of some probe rows joins
abbrev pub is_unmatched : Query → List Row → Row → Bool
is_unmatched q probed b = not (list_any (λ p. rows_join q p b) probed)

-- the rows of a morsel are too many where they are more than were asked for; of want of memory nothing is said
abbrev pub MorselFails : ℕ → List Row → ProbeError → Type 0
MorselFails most rows TooLarge = most < length rows
MorselFails most rows Memory = Unit {0}
