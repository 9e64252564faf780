use Rattle.std.proofs.Common.{◌≡◌, ℕ, ◌+◌, ◌<◌, ◌≤◌, ◌^◌, List, [], ◌∷◌, ◌++◌, map, length, get_or, take, replicate, sym, ap, ◌∙◌, subst, arith}
use Rattle.std.specs.List.{flat_map, All}
use Rattle.std.proofs.lemmas.List.{length-map, length-append, length-take-le, take-map}
use Rattle.std.proofs.lemmas.List.Folds.{length-flat_map-take}
use Rattle.key_parts.proofs.Partitions.{partition_of-below}
use Rattle.key_parts.specs.declared.hash.PlRandomState.{PlRandomState}
use Rattle.hash_keys.specs.Keys.{Key}
use Rattle.hash_keys.specs.Views.{keys_of, state_of}
use Rattle.hash_keys.specs.declared.keys.HashKeys.{HashKeys}
use Rattle.chunked_idx_table.specs.Tables.{ProbeTable, empty_table}
use Rattle.list_laws.proofs.Lists.{map_const, flat_map_more}
use Rattle.join_laws.specs.Partitions.{Stands, unmarked, deals, tables_of, no_table, HasRoom, with_parts}
use Rattle.join_laws.proofs.Sizes.{tables_room}
use Rattle.join_laws.proofs.Builds.{stands_more, frames_step, frames_rows}
use Rattle.join_tables.specs.Tables.{part_of, HaveState}
use Rattle.join_tables.proofs.Morsel.{dealt_now, dealt_inside, dealt_parts, dealt_rows, stands_parts}
use Rattle.join_tables.proofs.PartLists.{its, rows_flat}
use Rattle.join_tables.proofs.States.{stands_state}
use Rattle.join_tables.proofs.built.build_tables.Goals as goal

pub loop-keys-init : goal.loop-keys-init
loop-keys-init g c = record {
  stands = record {
    tables_are = c.in_ok-tables.ensures ∙ ap (λ n. replicate n (empty_table c.args.plan.now.state)) c.num_partitions-partitions.ensures.count ∙ sym (map_const (empty_table c.args.plan.now.state) 0 c.args.plan.now.partitioner.partitions);
    places_are = c.new-places.ensures;
  };
  lists_are = c.in_ok-lists.ensures ∙ c.num_partitions-partitions.ensures.count;
  cost = omega arith;
}

-- the frame is one of the state
frame_state : (state : PlRandomState) (frames : List HashKeys) (i : ℕ) (x : HashKeys) → All (λ keys. state_of keys ≡ state) frames → x ≡ get_or frames i x → i < length frames → state_of x ≡ state
frame_state state frames i x h e l = ap state_of e ∙ h i x l

frame_rows : (frames : List HashKeys) (i : ℕ) (x : HashKeys) → x ≡ get_or frames i x → i < length frames → length (flat_map keys_of (take i frames)) + length (keys_of x) ≤ length (flat_map keys_of frames)
frame_rows frames i x e h = omega (arith, length-flat_map-take keys_of frames i x h, ap (λ y. length (keys_of y)) e)

pub new-requires : goal.new-requires
new-requires g c =
    let plan = c.args.plan.now in
    let i = c.loop-keys.keys-index in
    let state = frame_state plan.state c.args.frames.now i c.keys-item.result c.requires.same_state c.keys-item.is (omega arith) in
    let dealt = dealt_now plan.state (state_of c.keys-item.result) plan.partitioner (keys_of c.keys-item.result) c.deal.new.lists.items (map its c.deref.result.now) state (ap (map its) c.deref.ensures.value) c.in_ok-deal.ensures.rows in
    let long = dealt_rows (part_of plan) plan.partitioner.partitions (keys_of c.keys-item.result) (map its c.deref.result.now) dealt (λ o. partition_of-below plan.state plan.partitioner o (omega (arith, c.num_partitions-partitions.ensures.some, c.num_partitions-partitions.ensures.count))) in
    omega (arith, long, ap length (rows_flat c.deref.result.now), frame_rows c.args.frames.now i c.keys-item.result c.keys-item.is (omega arith), c.requires.few_rows)

pub insert_parts-requires-clause-one_each : goal.insert_parts-requires-clause-one_each
insert_parts-requires-clause-one_each g c =
    let plan = c.args.plan.now in
    let i = c.loop-keys.keys-index in
    let state = frame_state plan.state c.args.frames.now i c.keys-item.result c.requires.same_state c.keys-item.is (omega arith) in
    let dealt = dealt_now plan.state (state_of c.keys-item.result) plan.partitioner (keys_of c.keys-item.result) c.deal.new.lists.items (map its c.deref-in-loop-keys.result.now) state (ap (map its) c.deref-in-loop-keys.ensures.value) c.in_ok-deal.ensures.rows in
    omega (arith, length-map c.deref-in-loop-keys.result.now its, dealt_parts (part_of plan) plan.partitioner.partitions (keys_of c.keys-item.result) (map its c.deref-in-loop-keys.result.now) dealt, stands_parts (part_of plan) plan.state plan.partitioner.partitions (take i (map keys_of c.args.frames.now)) unmarked c.loop-keys.tables c.loop-keys.places c.loop-keys.invariant.stands)

pub insert_parts-requires-clause-inside : goal.insert_parts-requires-clause-inside
insert_parts-requires-clause-inside g c =
    let plan = c.args.plan.now in
    let i = c.loop-keys.keys-index in
    let state = frame_state plan.state c.args.frames.now i c.keys-item.result c.requires.same_state c.keys-item.is (omega arith) in
    let dealt = dealt_now plan.state (state_of c.keys-item.result) plan.partitioner (keys_of c.keys-item.result) c.deal.new.lists.items (map its c.deref-in-loop-keys.result.now) state (ap (map its) c.deref-in-loop-keys.ensures.value) c.in_ok-deal.ensures.rows in
    dealt_inside (part_of plan) plan.partitioner.partitions (keys_of c.keys-item.result) (map its c.deref-in-loop-keys.result.now) dealt

pub insert_parts-requires-clause-same_state : goal.insert_parts-requires-clause-same_state
insert_parts-requires-clause-same_state g c =
    let plan = c.args.plan.now in
    let i = c.loop-keys.keys-index in
    let state = frame_state plan.state c.args.frames.now i c.keys-item.result c.requires.same_state c.keys-item.is (omega arith) in
    subst (λ (s : PlRandomState). HaveState s c.loop-keys.tables) (sym state) (stands_state (part_of plan) plan.state plan.partitioner.partitions (take i (map keys_of c.args.frames.now)) unmarked c.loop-keys.tables c.loop-keys.places c.loop-keys.invariant.stands)

-- tables that stand for the frames before have room for a frame
room_now : (plan_part : Key → ℕ) (state : PlRandomState) (n : ℕ) (frames : List HashKeys) (i : ℕ) (x : HashKeys) (ts : List ProbeTable) (ps : List (List (List ℕ))) → Stands plan_part state n (take i (map keys_of frames)) unmarked ts ps → x ≡ get_or frames i x → i < length frames → length frames < 2 ^ 31 → length (flat_map keys_of frames) < 2 ^ 31 → (p : ℕ) → HasRoom (length (keys_of x)) (get_or ts p no_table)
room_now plan_part state n frames i x ts ps s e h few_frames few_rows p =
    let front = take i (map keys_of frames) in
    let same : flat_map (λ f. f) front ≡ flat_map keys_of (take i frames) = ap (flat_map (λ f. f)) (take-map keys_of i frames) ∙ frames_rows keys_of (take i frames) in
    let few = length-take-le i (map keys_of frames) (omega (arith, length-map frames keys_of)) in
    let room = tables_room plan_part state n front unmarked (length (keys_of x)) (omega (arith, few, few_frames)) (omega (arith, frame_rows frames i x e h, ap length same, few_rows)) p in
    subst (λ (us : List ProbeTable). HasRoom (length (keys_of x)) (get_or us p no_table)) (sym s.tables_are) room

pub insert_parts-requires-clause-room : goal.insert_parts-requires-clause-room
insert_parts-requires-clause-room g c =
    let plan = c.args.plan.now in
    room_now (part_of plan) plan.state plan.partitioner.partitions c.args.frames.now c.loop-keys.keys-index c.keys-item.result c.loop-keys.tables c.loop-keys.places c.loop-keys.invariant.stands c.keys-item.is (omega arith) c.requires.few_frames c.requires.few_rows

-- tables and places with a frame more
stands_next : (part : Key → ℕ) (state : PlRandomState) (n : ℕ) (frames : List HashKeys) (i : ℕ) (x : HashKeys) (ts news : List ProbeTable) (ps places : List (List (List ℕ))) (lists rows : List (List ℕ)) → Stands part state n (take i (map keys_of frames)) unmarked ts ps → x ≡ get_or frames i x → i < length frames → lists ≡ deals part n (keys_of x) → rows ≡ deals part n (keys_of x) → news ≡ with_parts (keys_of x) lists ts → places ≡ ps ++ rows ∷ [] → Stands part state n (take (i + 1) (map keys_of frames)) unmarked news places
stands_next part state n frames i x ts news ps places lists rows s e h l r t q =
    let more = stands_more part state n (take i (map keys_of frames)) (keys_of x) ts ps s in
    let step = frames_step keys_of frames i x e h in
    record {
      tables_are = t ∙ ap (λ (ls : List (List ℕ)). with_parts (keys_of x) ls ts) l ∙ more.tables_are ∙ ap (λ fs. tables_of part state n fs unmarked) (sym step);
      places_are = q ∙ ap (λ (rs : List (List ℕ)). ps ++ rs ∷ []) r ∙ more.places_are ∙ ap (λ fs. map (deals part n) fs) (sym step);
    }

pub loop-keys-preserved : goal.loop-keys-preserved
loop-keys-preserved g c =
    let plan = c.args.plan.now in
    let part = part_of plan in
    let n = plan.partitioner.partitions in
    let i = c.loop-keys.keys-index in
    let frames = c.args.frames.now in
    let item = keys_of c.keys-item.result in
    let state = frame_state plan.state frames i c.keys-item.result c.requires.same_state c.keys-item.is (omega arith) in
    let dealt = dealt_now plan.state (state_of c.keys-item.result) plan.partitioner item c.deal.new.lists.items (map its c.deref.result.now) state (ap (map its) c.deref.ensures.value) c.in_ok-deal.ensures.rows in
    let dealt_then = dealt_now plan.state (state_of c.keys-item.result) plan.partitioner item c.deal.new.lists.items (map its c.deref-in-loop-keys.result.now) state (ap (map its) c.deref-in-loop-keys.ensures.value) c.in_ok-deal.ensures.rows in
    let long = dealt_rows part n item (map its c.deref-in-loop-keys.result.now) dealt_then (λ o. partition_of-below plan.state plan.partitioner o (omega (arith, c.num_partitions-partitions.ensures.some, c.num_partitions-partitions.ensures.count))) in
    record {
      stands = stands_next part plan.state n frames i c.keys-item.result c.loop-keys.tables c.insert_parts.new.tables c.loop-keys.places c.push.new.self (map its c.deref-in-loop-keys.result.now) (map its c.deref.result.now) c.loop-keys.invariant.stands c.keys-item.is (omega arith) dealt_then dealt c.in_ok-insert_parts.ensures.ok (c.in_ok-push.ensures.ok ∙ ap (λ f. c.loop-keys.places ++ f ∷ []) c.in_ok-new.ensures);
      lists_are = c.deal.ensures.lists ∙ c.loop-keys.invariant.lists_are;
      cost =
          let all = flat_map_more keys_of frames i c.keys-item.result c.keys-item.is (omega arith) in
          omega (arith, long, ap length (rows_flat c.deref-in-loop-keys.result.now), ap length all, length-append (flat_map keys_of (take i frames)) item, c.loop-keys.invariant.cost, c.in_ok-insert_parts.ensures.cost);
    }
