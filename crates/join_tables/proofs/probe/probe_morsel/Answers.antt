use Rattle.std.proofs.Common.{◌≡◌, ℕ, List, map, length, flat_map, sym, ap, ◌∙◌, subst, arith, Vec, Global}
use Rattle.std.proofs.lemmas.List.{length-map}
use Rattle.std.proofs.lemmas.List.Folds.{flat_map-map}
use Rattle.std.proofs.lemmas.Result.{err_from_is_err_and}
use Rattle.key_parts.specs.declared.hash.PlRandomState.{PlRandomState}
use Rattle.key_parts.proofs.Partitions.{partition_of-below}
use Rattle.hash_keys.specs.Views.{keys_of, state_of}
use Rattle.join_laws.specs.declared.Pair.{Pair}
use Rattle.join_laws.specs.Partitions.{parts_pairs}
use Rattle.join_laws.proofs.Found.{gives}
use Rattle.join_laws.proofs.Morsels.{stands_fits, stands_same}
use Rattle.join_tables.specs.Tables.{part_of, HaveState, ProbeFails, pairs_of}
use Rattle.join_tables.specs.declared.error.ProbeError.{ProbeError}
use Rattle.join_tables.specs.declared.error.ProbeError.TheVariants.{TooLarge, Memory}
use Rattle.join_tables.proofs.Morsel.{dealt_now, dealt_inside, dealt_parts, dealt_rows, stands_parts, morsel_found, morsel_count, morsel_marked, morsel_pairs, morsel_joined, morsel_fronts, found_under}
use Rattle.join_tables.proofs.PartLists.{its, rows_flat}
use Rattle.join_tables.proofs.States.{stands_state}
use Rattle.join_tables.proofs.probe.probe_morsel.Goals as goal

abbrev pits : Vec Pair Global → List Pair
pits v = v.items

fails_same : (most : ℕ) (some all : List Pair) (e : ProbeError) → length some ≡ length all → ProbeFails most some e → ProbeFails most all e
fails_same most some all TooLarge h k = omega (arith, h, k)
fails_same most some all Memory h k = tt

pub returns-in_err-lists-clause-err : goal.returns-in_err-lists-clause-err
returns-in_err-lists-clause-err g c =
    let plan = c.args.plan.now in
    let p = err_from_is_err_and c.from_residual.result c.from_residual.ensures.1 in
    rw p.1 (λ frames marked s. stands_same (part_of plan) plan.state plan.partitioner.partitions frames marked c.args.built.now.tables c.args.built.now.places s (keys_of c.args.keys.now))

pub returns-in_err-deal-clause-err : goal.returns-in_err-deal-clause-err
returns-in_err-deal-clause-err g c =
    let plan = c.args.plan.now in
    let p = err_from_is_err_and c.from_residual-in_err-deal.result c.from_residual-in_err-deal.ensures.1 in
    rw p.1 (λ frames marked s. stands_same (part_of plan) plan.state plan.partitioner.partitions frames marked c.args.built.now.tables c.args.built.now.places s (keys_of c.args.keys.now))

pub probe_parts-requires-clause-one_each : goal.probe_parts-requires-clause-one_each
probe_parts-requires-clause-one_each g c =
    let plan = c.args.plan.now in
    let keys = keys_of c.args.keys.now in
    let dealt = dealt_now plan.state (state_of c.args.keys.now) plan.partitioner keys c.deal.new.lists.items (map its c.deref.result.now) c.requires.same_state (ap (map its) c.deref.ensures.value) c.in_ok-deal.ensures.rows in
    let s = c.requires.stands in
    omega (arith, length-map c.deref.result.now its, dealt_parts (part_of plan) plan.partitioner.partitions keys (map its c.deref.result.now) dealt, stands_parts (part_of plan) plan.state plan.partitioner.partitions s.0 s.1 c.args.built.now.tables c.args.built.now.places s.2)

pub probe_parts-requires-clause-same_state : goal.probe_parts-requires-clause-same_state
probe_parts-requires-clause-same_state g c =
    let plan = c.args.plan.now in
    let s = c.requires.stands in
    subst (λ (state : PlRandomState). HaveState state c.args.built.now.tables) (sym c.requires.same_state) (stands_state (part_of plan) plan.state plan.partitioner.partitions s.0 s.1 c.args.built.now.tables c.args.built.now.places s.2)

pub probe_parts-requires-clause-inside : goal.probe_parts-requires-clause-inside
probe_parts-requires-clause-inside g c =
    let plan = c.args.plan.now in
    let keys = keys_of c.args.keys.now in
    let dealt = dealt_now plan.state (state_of c.args.keys.now) plan.partitioner keys c.deal.new.lists.items (map its c.deref.result.now) c.requires.same_state (ap (map its) c.deref.ensures.value) c.in_ok-deal.ensures.rows in
    dealt_inside (part_of plan) plan.partitioner.partitions keys (map its c.deref.result.now) dealt

pub probe_parts-requires-clause-fits : goal.probe_parts-requires-clause-fits
probe_parts-requires-clause-fits g c =
    let plan = c.args.plan.now in
    let s = c.requires.stands in
    stands_fits (part_of plan) plan.state plan.partitioner.partitions s.0 s.1 c.args.built.now.tables c.args.built.now.places s.2

pub returns-in_err-found-clause-fails : goal.returns-in_err-found-clause-fails
returns-in_err-found-clause-fails g c =
    let plan = c.args.plan.now in
    let keys = keys_of c.args.keys.now in
    let dealt = dealt_now plan.state (state_of c.args.keys.now) plan.partitioner keys c.deal.new.lists.items (map its c.deref.result.now) c.requires.same_state (ap (map its) c.deref.ensures.value) c.in_ok-deal.ensures.rows in
    let p = err_from_is_err_and c.from_residual-in_err-found.result c.from_residual-in_err-found.ensures.1 in
    rw (p.1, p.2) (λ frames marked s. fails_same c.args.most (flat_map (λ q. q) (parts_pairs c.args.built.now.places plan.keep_probe keys (map its c.deref.result.now) c.args.built.now.tables)) (pairs_of plan frames keys) c.in_err-found.field-0.0 (morsel_count (part_of plan) plan.state plan.partitioner.partitions frames marked c.args.built.now.tables c.args.built.now.places s keys (map its c.deref.result.now) dealt (λ o. partition_of-below plan.state plan.partitioner o (omega (arith, c.num_partitions.ensures.some, c.num_partitions.ensures.count))) plan.keep_probe) c.in_err-found.ensures.fails)

pub returns-in_err-found-clause-err : goal.returns-in_err-found-clause-err
returns-in_err-found-clause-err g c =
    let plan = c.args.plan.now in
    let keys = keys_of c.args.keys.now in
    let dealt = dealt_now plan.state (state_of c.args.keys.now) plan.partitioner keys c.deal.new.lists.items (map its c.deref.result.now) c.requires.same_state (ap (map its) c.deref.ensures.value) c.in_ok-deal.ensures.rows in
    let p = err_from_is_err_and c.from_residual-in_err-found.result c.from_residual-in_err-found.ensures.1 in
    rw p.1 (λ frames marked s. morsel_fronts (part_of plan) plan.state plan.partitioner.partitions frames marked c.args.built.now.tables c.args.built.now.places s keys (map its c.deref.result.now) dealt c.probe_parts.new.tables c.in_err-found.ensures.long c.in_err-found.ensures.err)

pub in_row_order-requires-clause-few : goal.in_row_order-requires-clause-few
in_row_order-requires-clause-few g c =
    omega (arith, ap (λ (vs : List (Vec Pair Global)). length (flat_map pits vs)) c.deref-2.ensures.value, c.in_ok-found.ensures.within, c.requires.most)

pub in_row_order-requires-clause-found : goal.in_row_order-requires-clause-found
in_row_order-requires-clause-found g c =
    let plan = c.args.plan.now in
    let keys = keys_of c.args.keys.now in
    let dealt = dealt_now plan.state (state_of c.args.keys.now) plan.partitioner keys c.deal.new.lists.items (map its c.deref.result.now) c.requires.same_state (ap (map its) c.deref.ensures.value) c.in_ok-deal.ensures.rows in
    let found : map pits c.deref-2.result.now ≡ parts_pairs c.args.built.now.places plan.keep_probe keys (map its c.deref.result.now) c.args.built.now.tables = ap (map pits) c.deref-2.ensures.value ∙ c.in_ok-found.ensures.found in
    let s = c.requires.stands in
    let given = gives (part_of plan) plan.state plan.partitioner.partitions s.0 plan.keep_probe keys in
    (given, found_under plan.state (state_of c.args.keys.now) plan.partitioner keys given (map pits c.deref-2.result.now) c.requires.same_state (morsel_found (part_of plan) plan.state plan.partitioner.partitions s.0 s.1 c.args.built.now.tables c.args.built.now.places s.2 keys (map its c.deref.result.now) dealt plan.keep_probe (map pits c.deref-2.result.now) found))

pub returns-in_err-pairs-clause-err : goal.returns-in_err-pairs-clause-err
returns-in_err-pairs-clause-err g c =
    let plan = c.args.plan.now in
    let keys = keys_of c.args.keys.now in
    let dealt = dealt_now plan.state (state_of c.args.keys.now) plan.partitioner keys c.deal.new.lists.items (map its c.deref.result.now) c.requires.same_state (ap (map its) c.deref.ensures.value) c.in_ok-deal.ensures.rows in
    let p = err_from_is_err_and c.from_residual-in_err-pairs.result c.from_residual-in_err-pairs.ensures.1 in
    rw p.1 (λ frames marked s. morsel_joined (part_of plan) plan.state plan.partitioner.partitions frames marked c.args.built.now.tables c.args.built.now.places s keys (map its c.deref.result.now) dealt c.probe_parts.new.tables c.in_ok-found.ensures.marked)

pub returns-clause-pairs : goal.returns-clause-pairs
returns-clause-pairs g c = λ frames marked s.
    let plan = c.args.plan.now in
    let keys = keys_of c.args.keys.now in
    let dealt = dealt_now plan.state (state_of c.args.keys.now) plan.partitioner keys c.deal.new.lists.items (map its c.deref.result.now) c.requires.same_state (ap (map its) c.deref.ensures.value) c.in_ok-deal.ensures.rows in
    let found : map pits c.deref-2.result.now ≡ parts_pairs c.args.built.now.places plan.keep_probe keys (map its c.deref.result.now) c.args.built.now.tables = ap (map pits) c.deref-2.ensures.value ∙ c.in_ok-found.ensures.found in
    let given = gives (part_of plan) plan.state plan.partitioner.partitions frames plan.keep_probe keys in
    c.from_vec.ensures ∙ c.in_ok-pairs.ensures given (found_under plan.state (state_of c.args.keys.now) plan.partitioner keys given (map pits c.deref-2.result.now) c.requires.same_state (morsel_found (part_of plan) plan.state plan.partitioner.partitions frames marked c.args.built.now.tables c.args.built.now.places s keys (map its c.deref.result.now) dealt plan.keep_probe (map pits c.deref-2.result.now) found)) ∙ morsel_pairs (part_of plan) plan.state plan.partitioner.partitions frames marked c.args.built.now.tables c.args.built.now.places s keys (map its c.deref.result.now) dealt plan.keep_probe

pub returns-clause-within : goal.returns-clause-within
returns-clause-within g c =
    let plan = c.args.plan.now in
    let keys = keys_of c.args.keys.now in
    let dealt = dealt_now plan.state (state_of c.args.keys.now) plan.partitioner keys c.deal.new.lists.items (map its c.deref.result.now) c.requires.same_state (ap (map its) c.deref.ensures.value) c.in_ok-deal.ensures.rows in
    let found : map pits c.deref-2.result.now ≡ parts_pairs c.args.built.now.places plan.keep_probe keys (map its c.deref.result.now) c.args.built.now.tables = ap (map pits) c.deref-2.ensures.value ∙ c.in_ok-found.ensures.found in
    let s = c.requires.stands in
    let all : flat_map pits c.deref-2.result.now ≡ flat_map (λ q. q) (map pits c.deref-2.result.now) = sym (flat_map-map (λ (q : List Pair). q) pits c.deref-2.result.now) in
    omega (arith, ap length (returns-clause-pairs g c s.0 s.1 s.2), morsel_count (part_of plan) plan.state plan.partitioner.partitions s.0 s.1 c.args.built.now.tables c.args.built.now.places s.2 keys (map its c.deref.result.now) dealt (λ o. partition_of-below plan.state plan.partitioner o (omega (arith, c.num_partitions.ensures.some, c.num_partitions.ensures.count))) plan.keep_probe, ap (λ (fs : List (List Pair)). length (flat_map (λ q. q) fs)) found, ap length all, ap (λ (vs : List (Vec Pair Global)). length (flat_map pits vs)) c.deref-2.ensures.value, c.in_ok-found.ensures.within)

pub returns-clause-marked : goal.returns-clause-marked
returns-clause-marked g c = λ frames marked s.
    let plan = c.args.plan.now in
    let keys = keys_of c.args.keys.now in
    let dealt = dealt_now plan.state (state_of c.args.keys.now) plan.partitioner keys c.deal.new.lists.items (map its c.deref.result.now) c.requires.same_state (ap (map its) c.deref.ensures.value) c.in_ok-deal.ensures.rows in
    morsel_marked (part_of plan) plan.state plan.partitioner.partitions frames marked c.args.built.now.tables c.args.built.now.places s keys (map its c.deref.result.now) dealt c.probe_parts.new.tables c.in_ok-found.ensures.marked

pub returns-clause-cost : goal.returns-clause-cost
returns-clause-cost g c =
    let plan = c.args.plan.now in
    let keys = keys_of c.args.keys.now in
    let dealt = dealt_now plan.state (state_of c.args.keys.now) plan.partitioner keys c.deal.new.lists.items (map its c.deref.result.now) c.requires.same_state (ap (map its) c.deref.ensures.value) c.in_ok-deal.ensures.rows in
    omega (arith, dealt_rows (part_of plan) plan.partitioner.partitions keys (map its c.deref.result.now) dealt (λ o. partition_of-below plan.state plan.partitioner o (omega (arith, c.num_partitions.ensures.some, c.num_partitions.ensures.count))), ap length (rows_flat c.deref.result.now), c.in_ok-found.ensures.cost)
