use Rattle.std.proofs.Common.{◌≡◌, ℕ, ◌<◌, List, [], ◌∷◌, ◌++◌, map, length, get_or, take, flat_map, sym, ap, ap₂, ◌∙◌, subst, arith, Vec, Global}
use Rattle.std.specs.List.{All}
use Rattle.std.proofs.lemmas.List.{length-append, map-append}
use Rattle.std.proofs.lemmas.List.FromFn.{map-range_with_len_more}
use Rattle.std.proofs.lemmas.List.Concat.{flat_map-append}
use Rattle.std.proofs.lemmas.Result.{err_from_is_err_and}
use Rattle.hash_keys.specs.Views.{keys_of, state_of}
use Rattle.chunked_idx_table.specs.Tables.{ProbeTable}
use Rattle.join_laws.specs.declared.Pair.{Pair}
use Rattle.join_laws.specs.Partitions.{no_table, TableFits}
use Rattle.join_laws.proofs.Fronts.{front_whole, parts_length, parts_front}
use Rattle.join_tables.specs.Tables.{ProbeFails}
use Rattle.join_tables.specs.Probing.{found_in, all_found_in, marks_rows, with_rows_marked}
use Rattle.join_tables.specs.declared.error.ProbeError.{ProbeError}
use Rattle.join_tables.specs.declared.error.ProbeError.TheVariants.{TooLarge, Memory}
use Rattle.join_tables.proofs.PartLists.{its, list_is, rows_more}
use Rattle.join_tables.proofs.Changed.{changed_none, changed_more, changed_all, next_table, state_here, fronts_marked}
use Rattle.join_tables.proofs.probe.probe_parts.Goals as goal

abbrev pits : Vec Pair Global → List Pair
pits v = v.items

pub loop-p-init : goal.loop-p-init
loop-p-init g c = record {
  changed = changed_none (marks_rows c.args.probing.now (map its c.args.lists.now)) c.args.tables.now;
  found_are = ap (map pits) c.new-found.ensures.items;
  room = omega (arith, ap (λ (vs : List (Vec Pair Global)). length (flat_map pits vs)) c.new-found.ensures.items);
  cost = omega arith;
}

pub probe_part-requires-clause-same_state : goal.probe_part-requires-clause-same_state
probe_part-requires-clause-same_state g c =
    let p = c.loop-p.p in
    let was = next_table (marks_rows c.args.probing.now (map its c.args.lists.now)) p c.args.tables.now c.loop-p.tables c.item_mut.result.now c.loop-p.invariant.changed c.item_mut.ensures.value in
    state_here (state_of c.args.probing.now.keys.now) c.args.tables.now p c.requires.same_state (omega (arith, c.requires.one_each)) ∙ ap (λ (t : ProbeTable). t.state) (sym was)

pub probe_part-requires-clause-inside : goal.probe_part-requires-clause-inside
probe_part-requires-clause-inside g c =
    let e = list_is c.args.lists.now c.loop-p.p c.index-lists-p.result c.deref.result.now c.index-lists-p.is (omega arith) c.deref.ensures.value in
    subst (λ (ds : List ℕ). All (λ i. i < length (keys_of c.args.probing.now.keys.now)) ds) (sym e) (c.requires.inside c.loop-p.p).0

pub probe_part-requires-clause-few : goal.probe_part-requires-clause-few
probe_part-requires-clause-few g c =
    let e = list_is c.args.lists.now c.loop-p.p c.index-lists-p.result c.deref.result.now c.index-lists-p.is (omega arith) c.deref.ensures.value in
    omega (arith, ap length e, (c.requires.inside c.loop-p.p).1, c.requires.few)

pub probe_part-requires-clause-fits : goal.probe_part-requires-clause-fits
probe_part-requires-clause-fits g c =
    let p = c.loop-p.p in
    let was = next_table (marks_rows c.args.probing.now (map its c.args.lists.now)) p c.args.tables.now c.loop-p.tables c.item_mut.result.now c.loop-p.invariant.changed c.item_mut.ensures.value in
    subst (λ (t : ProbeTable). TableFits c.args.probing.now.places.now p t) (sym was) (c.requires.fits p)

fails_more : (room most : ℕ) (some all : List Pair) (e : ProbeError) → (room < length some → most < length all) → ProbeFails room some e → ProbeFails most all e
fails_more room most some all TooLarge h k = h k
fails_more room most some all Memory h k = tt

pub returns-in_err-pairs-clause-fails : goal.returns-in_err-pairs-clause-fails
returns-in_err-pairs-clause-fails g c =
    let probing = c.args.probing.now in
    let lists = map its c.args.lists.now in
    let olds = c.args.tables.now in
    let p = c.loop-p.p in
    let f : ℕ → List Pair = λ q. found_in probing (get_or olds q no_table) q (get_or lists q []) in
    let was = next_table (marks_rows probing lists) p olds c.loop-p.tables c.item_mut.result.now c.loop-p.invariant.changed c.item_mut.ensures.value in
    let e = list_is c.args.lists.now p c.index-lists-p.result c.deref.result.now c.index-lists-p.is (omega arith) c.deref.ensures.value in
    let part : found_in probing c.item_mut.result.now p c.deref.result.now ≡ f p = ap₂ (λ (t : ProbeTable) (ds : List ℕ). found_in probing t p ds) was e in
    let q = err_from_is_err_and c.from_residual.result c.from_residual.ensures.1 in
    let front = parts_front f p (length olds) (omega (arith, c.requires.one_each)) in
    let so_far = parts_length pits c.loop-p.found.items f p c.loop-p.invariant.found_are in
    rw (q.1, q.2) (fails_more c.loop-p.room c.args.most (found_in probing c.item_mut.result.now p c.deref.result.now) (flat_map (λ q. q) (all_found_in probing olds lists)) c.in_err-pairs.field-0.0 (λ l. omega (arith, l, ap length part, front, so_far, c.loop-p.invariant.room)) c.in_err-pairs.ensures.fails)

pub returns-in_err-pairs-clause-err : goal.returns-in_err-pairs-clause-err
returns-in_err-pairs-clause-err g c =
    let probing = c.args.probing.now in
    let keys = keys_of probing.keys.now in
    let lists = map its c.args.lists.now in
    let olds = c.args.tables.now in
    let p = c.loop-p.p in
    let b = c.in_err-pairs.ensures.err in
    let q = err_from_is_err_and c.from_residual.result c.from_residual.ensures.1 in
    let was = next_table (marks_rows probing lists) p olds c.loop-p.tables c.item_mut.result.now c.loop-p.invariant.changed c.item_mut.ensures.value in
    let e = list_is c.args.lists.now p c.index-lists-p.result c.deref.result.now c.index-lists-p.is (omega arith) c.deref.ensures.value in
    let now : c.probe_part.new.table ≡ with_rows_marked probing (get_or olds p no_table) (take b.0 (get_or lists p [])) = b.1 ∙ ap₂ (λ (ds : List ℕ) (t : ProbeTable). with_rows_marked probing t (take b.0 ds)) e was in
    rw q.1 (fronts_marked keys lists p b.0 olds c.loop-p.tables c.probe_part.new.table c.loop-p.invariant.changed (omega (arith, c.requires.one_each)) now)

pub returns-in_err-push-clause-err : goal.returns-in_err-push-clause-err
returns-in_err-push-clause-err g c =
    let probing = c.args.probing.now in
    let keys = keys_of probing.keys.now in
    let lists = map its c.args.lists.now in
    let olds = c.args.tables.now in
    let p = c.loop-p.p in
    let q = err_from_is_err_and c.from_residual-in_err-push.result c.from_residual-in_err-push.ensures.1 in
    let was = next_table (marks_rows probing lists) p olds c.loop-p.tables c.item_mut.result.now c.loop-p.invariant.changed c.item_mut.ensures.value in
    let e = list_is c.args.lists.now p c.index-lists-p.result c.deref.result.now c.index-lists-p.is (omega arith) c.deref.ensures.value in
    let now : c.probe_part.new.table ≡ with_rows_marked probing (get_or olds p no_table) (take (length (get_or lists p [])) (get_or lists p [])) = c.in_ok-pairs.ensures.marked ∙ ap₂ (λ (ds : List ℕ) (t : ProbeTable). with_rows_marked probing t ds) e was ∙ front_whole keys (get_or lists p []) (get_or olds p no_table) in
    rw q.1 (fronts_marked keys lists p (length (get_or lists p [])) olds c.loop-p.tables c.probe_part.new.table c.loop-p.invariant.changed (omega (arith, c.requires.one_each)) now)

pub loop-p-preserved : goal.loop-p-preserved
loop-p-preserved g c =
    let probing = c.args.probing.now in
    let lists = map its c.args.lists.now in
    let olds = c.args.tables.now in
    let p = c.loop-p.p in
    let f : ℕ → List Pair = λ q. found_in probing (get_or olds q no_table) q (get_or lists q []) in
    let was = next_table (marks_rows probing lists) p olds c.loop-p.tables c.item_mut.result.now c.loop-p.invariant.changed c.item_mut.ensures.value in
    let e = list_is c.args.lists.now p c.index-lists-p.result c.deref.result.now c.index-lists-p.is (omega arith) c.deref.ensures.value in
    let now : c.probe_part.new.table ≡ marks_rows probing lists p (get_or olds p no_table) = c.in_ok-pairs.ensures.marked ∙ ap₂ (λ (ds : List ℕ) (t : ProbeTable). with_rows_marked probing t ds) e was in
    let pairs : c.in_ok-pairs.pairs.items ≡ f p = c.in_ok-pairs.ensures.pairs ∙ ap₂ (λ (t : ProbeTable) (ds : List ℕ). found_in probing t p ds) was e in
    record {
      changed = changed_more (marks_rows probing lists) p olds c.loop-p.tables c.probe_part.new.table c.loop-p.invariant.changed (omega (arith, c.requires.one_each)) now;
      found_are = ap (map pits) c.in_ok-push.ensures.items ∙ map-append pits c.loop-p.found.items (c.in_ok-pairs.pairs ∷ []) ∙ ap₂ (λ (a : List (List Pair)) (b : List Pair). a ++ b ∷ []) c.loop-p.invariant.found_are pairs ∙ sym (map-range_with_len_more f 0 p p (omega arith));
      room =
          let pushed = ap (flat_map pits) c.in_ok-push.ensures.items ∙ flat_map-append pits c.loop-p.found.items (c.in_ok-pairs.pairs ∷ []) in
          omega (arith, ap length pushed, length-append (flat_map pits c.loop-p.found.items) (c.in_ok-pairs.pairs.items ++ []), length-append c.in_ok-pairs.pairs.items [], c.len.ensures, c.in_ok-pairs.pairs.ok, c.in_ok-pairs.ensures.within, c.loop-p.invariant.room);
      cost = omega (arith, c.loop-p.invariant.cost, c.in_ok-pairs.ensures.cost, ap length e, rows_more c.args.lists.now p c.index-lists-p.result c.index-lists-p.is (omega arith));
    }

pub returns-clause-marked : goal.returns-clause-marked
returns-clause-marked g c = changed_all (marks_rows c.args.probing.now (map its c.args.lists.now)) c.loop-p.p c.args.tables.now c.loop-p.tables c.loop-p.invariant.changed (omega (arith, c.requires.one_each))
