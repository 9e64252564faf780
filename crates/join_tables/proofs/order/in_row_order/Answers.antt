use Rattle.std.proofs.Common.{◌≡◌, ℕ, ◌≤◌, List, ◌++◌, map, length, get_or, take, flat_map, Some, None, sym, ap, ◌∙◌, arith, count_by, Vec, Global}
use Rattle.std.specs.List.{range_with_len}
use Rattle.std.proofs.lemmas.List.{take_all}
use Rattle.std.proofs.lemmas.List.Folds.{flat_map-map, length-flat_map-take}
use Rattle.std.proofs.lemmas.Result.{IfOk-weaker}
use Rattle.key_parts.proofs.Partitions.{partition_of-below}
use Rattle.key_parts.specs.Partitions.{partition_of}
use Rattle.key_parts.specs.Positions.{Position, position}
use Rattle.hash_keys.specs.Gathered.{numbered}
use Rattle.hash_keys.specs.Keys.{Key}
use Rattle.hash_keys.specs.Views.{keys_of, state_of}
use Rattle.list_laws.proofs.Each.{All-from_Each}
use Rattle.join_laws.specs.declared.Pair.{Pair}
use Rattle.join_laws.specs.Partitions.{is_of, AtPair}
use Rattle.join_laws.proofs.RowOrder.{count_short, count_pieces, counts_out}
use Rattle.join_tables.proofs.Ordered.{numbered_given, counted_few}
use Rattle.join_tables.proofs.order.in_row_order.Goals as goal

abbrev its : Vec Pair Global → List Pair
its v = v.items

flat_is : (found : List (Vec Pair Global)) → flat_map (λ (q : List Pair). q) (map its found) ≡ flat_map its found
flat_is found = flat_map-map (λ (q : List Pair). q) its found

pub count_pairs-requires-clause-room : goal.count_pairs-requires-clause-room
count_pairs-requires-clause-room c = λ i.
    let k = c.loop-pairs.pairs-index in
    let found = c.args.found.now in
    omega (arith, ap (λ (l : List ℕ). get_or l i 0) c.deref_mut.ensures.value, c.loop-pairs.invariant.so_far i, count_short (is_of i) (flat_map its (take k found)), length-flat_map-take its found k c.pairs-item.result (omega arith), ap (λ (v : Vec Pair Global). length v.items) c.pairs-item.is, ap length c.deref.ensures.value, c.requires.few)

pub count_pairs-requires-clause-inside : goal.count_pairs-requires-clause-inside
count_pairs-requires-clause-inside c = λ i past.
    let keys = keys_of c.args.keys.now in
    let part : Key → ℕ = partition_of (state_of c.args.keys.now) c.args.partitioner.now in
    let found = c.args.found.now in
    let out = counts_out part c.args.partitioner.now.partitions (λ o. partition_of-below (state_of c.args.keys.now) c.args.partitioner.now o (omega arith)) keys c.requires.found.0 (map its found) c.requires.found.1 i (omega (arith, ap length c.deref_mut.ensures.value, c.loop-pairs.invariant.long)) in
    let piece = count_pieces (is_of i) its found c.loop-pairs.pairs-index c.pairs-item.result c.pairs-item.is (omega arith) in
    omega (arith, out, piece, ap (count_by (is_of i)) (flat_is found), ap (count_by (is_of i)) c.deref.ensures.value)

-- the counts of all pairs
counted_all : (counts now : List ℕ) (found : List (Vec Pair Global)) (k : ℕ) → now ≡ counts → ((i : ℕ) → get_or counts i 0 ≡ count_by (is_of i) (flat_map its (take k found))) → length found ≤ k → (i : ℕ) → get_or now i 0 ≡ count_by (is_of i) (flat_map (λ (q : List Pair). q) (map its found))
counted_all counts now found k e so_far end i = ap (λ (c : List ℕ). get_or c i 0) e ∙ so_far i ∙ ap (λ (fs : List (Vec Pair Global)). count_by (is_of i) (flat_map its fs)) (take_all k found end) ∙ ap (count_by (is_of i)) (sym (flat_is found))

pub gen_partitioned_gather_idxs-requires-clause-few : goal.gen_partitioned_gather_idxs-requires-clause-few
gen_partitioned_gather_idxs-requires-clause-few c =
    let keys = keys_of c.args.keys.now in
    let part : Key → ℕ = partition_of (state_of c.args.keys.now) c.args.partitioner.now in
    let found = c.args.found.now in
    counted_few part c.args.partitioner.now.partitions (λ o. partition_of-below (state_of c.args.keys.now) c.args.partitioner.now o (omega arith)) keys c.requires.found.0 (map its found) c.requires.found.1 c.deref-2.result.now (counted_all c.loop-pairs.counts.items c.deref-2.result.now found c.loop-pairs.pairs-index c.deref-2.ensures.value c.loop-pairs.invariant.so_far (omega arith)) (omega (arith, ap length (flat_is found), c.requires.few))

pub pick_all-requires : goal.pick_all-requires
pick_all-requires c =
    let keys = keys_of c.args.keys.now in
    let part : Key → ℕ = partition_of (state_of c.args.keys.now) c.args.partitioner.now in
    let found = c.args.found.now in
    let given = numbered_given part c.args.partitioner.now.partitions (λ o. partition_of-below (state_of c.args.keys.now) c.args.partitioner.now o (omega arith)) keys c.requires.found.0 (map its found) c.requires.found.1 c.deref-2.result.now (counted_all c.loop-pairs.counts.items c.deref-2.result.now found c.loop-pairs.pairs-index c.deref-2.ensures.value c.loop-pairs.invariant.so_far (omega arith)) in
    let xs = numbered (λ i. part (get_or keys i None)) (λ i. get_or c.deref-2.result.now i 0) (range_with_len 0 (length keys)) (λ _. 0) in
    (xs, ap (map position) c.deref-3.ensures.value ∙ c.in_ok-gen_partitioned_gather_idxs.ensures.ok ∙ ap (λ (l : List _). map position l ++ map (λ (x : Position). Some x) xs) c.new-ids.ensures.items, All-from_Each (AtPair (map its found)) xs given.1)

pub returns : goal.returns
returns c =
    let keys = keys_of c.args.keys.now in
    let part : Key → ℕ = partition_of (state_of c.args.keys.now) c.args.partitioner.now in
    let found = c.args.found.now in
    let xs = numbered (λ i. part (get_or keys i None)) (λ i. get_or c.deref-2.result.now i 0) (range_with_len 0 (length keys)) (λ _. 0) in
    let seen : map position c.deref-3.result.now ≡ map (λ (x : Position). Some x) xs = ap (map position) c.deref-3.ensures.value ∙ c.in_ok-gen_partitioned_gather_idxs.ensures.ok ∙ ap (λ (l : List _). map position l ++ map (λ (x : Position). Some x) xs) c.new-ids.ensures.items in
    IfOk-weaker c.pick_all.result _ _ (λ v h gives f. h xs seen ∙ (numbered_given part c.args.partitioner.now.partitions (λ o. partition_of-below (state_of c.args.keys.now) c.args.partitioner.now o (omega arith)) keys gives (map its found) f c.deref-2.result.now (counted_all c.loop-pairs.counts.items c.deref-2.result.now found c.loop-pairs.pairs-index c.deref-2.ensures.value c.loop-pairs.invariant.so_far (omega arith))).0) c.pick_all.ensures
