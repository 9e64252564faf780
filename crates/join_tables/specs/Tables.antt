-- Tables that stand for frames of keys, and the pairs and refusals of probes.
use Rattle.std.specs.Prelude.{◌≡◌, ℕ, ◌<◌, Bool, List, length, bytes_eq}
use Rattle.std.specs.List.{All}
use Rattle.key_parts.specs.declared.hash.PlRandomState.{PlRandomState}
use Rattle.key_parts.specs.Partitions.{Partitioner, partition_of}
use Rattle.hash_keys.specs.Keys.{Key}
use Rattle.hash_keys.specs.Views.{keys_of, state_of}
use Rattle.hash_keys.specs.declared.keys.HashKeys.{HashKeys}
use Rattle.chunked_idx_table.specs.Tables.{ProbeTable}
use Rattle.join_laws.specs.declared.Pair.{Pair}
use Rattle.join_laws.specs.Pairs.{nested_pairs}
use Rattle.join_laws.specs.Partitions.{IsFound, Stands, StandsMore}
use Rattle.join_tables.specs.declared.built.Built.{Built}
use Rattle.join_tables.specs.declared.error.ProbeError.{ProbeError}
use Rattle.join_tables.specs.declared.error.ProbeError.TheVariants.{TooLarge, Memory}
use Rattle.join_tables.specs.declared.plan.TablePlan.{TablePlan}

-- the partition of a key
abbrev pub part_of : TablePlan → Key → ℕ
part_of plan = partition_of plan.state plan.partitioner

-- the tables and places are those of frames of keys, under marks that are a test of the key
abbrev pub StandsFor : TablePlan → List (List Key) → (List ℕ → Bool) → Built → Type 0
StandsFor plan frames marked built = Stands (part_of plan) plan.state plan.partitioner.partitions frames marked built.tables built.places

-- they are, but for some keys that are marked more, all of which a morsel joins
abbrev pub StandsForMore : TablePlan → List (List Key) → (List ℕ → Bool) → List Key → Built → Type 0
StandsForMore plan frames marked keys built = StandsMore (part_of plan) plan.state plan.partitioner.partitions frames marked keys built.tables built.places

-- the pairs of a morsel's rows: each row with all build rows that it joins, in build order, or alone where it joins none and is kept
abbrev pub pairs_of : TablePlan → List (List Key) → List Key → List Pair
pairs_of plan frames keys = nested_pairs bytes_eq (part_of plan) frames plan.keep_probe keys

-- pairs are too many where they are more than were asked for; of want of memory nothing is said
abbrev pub ProbeFails : ℕ → List Pair → ProbeError → Type 0
ProbeFails most pairs TooLarge = most < length pairs
ProbeFails most pairs Memory = Unit {0}

-- each table's keys are found under the state
abbrev pub HaveState : PlRandomState → List ProbeTable → Type 0
HaveState state tables = All (λ t. state ≡ t.state) tables

-- the pairs of each partition are those that its rows give
abbrev pub AreFound : Partitioner → HashKeys → (ℕ → List Pair) → List (List Pair) → Type 0
AreFound partitioner keys gives found = IsFound (partition_of (state_of keys) partitioner) partitioner.partitions (keys_of keys) gives found
