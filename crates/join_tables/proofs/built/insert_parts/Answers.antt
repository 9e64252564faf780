use Rattle.std.proofs.Common.{◌≡◌, ℕ, ◌<◌, List, [], map, length, get_or, true, is_some, sym, ap, ap₂, ◌∙◌, subst, arith}
use Rattle.std.specs.List.{All}
use Rattle.std.proofs.lemmas.List.{length-map}
use Rattle.hash_keys.specs.Keys.{Key, key_at}
use Rattle.hash_keys.specs.Views.{keys_of, state_of}
use Rattle.chunked_idx_table.specs.Inserts.{with_chunk}
use Rattle.chunked_idx_table.specs.Probes.{keys_at}
use Rattle.chunked_idx_table.specs.Tables.{ProbeTable}
use Rattle.join_laws.specs.Partitions.{no_table}
use Rattle.join_laws.proofs.RowOrder.{count_short}
use Rattle.join_tables.proofs.Grown.{part_few, chunks_few, size_few}
use Rattle.join_tables.proofs.PartLists.{its, list_is, rows_more}
use Rattle.join_tables.proofs.Changed.{changed_none, changed_more, changed_all, next_table, state_here}
use Rattle.join_tables.proofs.built.insert_parts.Goals as goal

abbrev inserted : List Key → List (List ℕ) → ℕ → ProbeTable → ProbeTable
inserted keys lists q t = with_chunk true t (keys_at keys (get_or lists q []))

pub loop-p-init : goal.loop-p-init
loop-p-init g c = record { changed = changed_none (inserted (keys_of c.args.keys.now) (map its c.args.lists.now)) c.args.tables.now; cost = omega arith }

pub gather-requires-clause-in_bounds : goal.gather-requires-clause-in_bounds
gather-requires-clause-in_bounds g c =
    let e = list_is c.args.lists.now c.loop-p.p c.index-lists-p.result c.deref.result.now c.index-lists-p.is (omega arith) c.deref.ensures.value in
    let P : List ℕ → Type 0 = λ ds. All (λ i. i < length (keys_of c.args.keys.now)) ds in
    subst P (sym e) (c.requires.inside c.loop-p.p).0

pub gather-requires-clause-few : goal.gather-requires-clause-few
gather-requires-clause-few g c =
    let e = list_is c.args.lists.now c.loop-p.p c.index-lists-p.result c.deref.result.now c.index-lists-p.is (omega arith) c.deref.ensures.value in
    omega (arith, ap length e, (c.requires.inside c.loop-p.p).1, (c.requires.room c.loop-p.p).1)

pub insert_key_chunk-requires-clause-few_rows : goal.insert_key_chunk-requires-clause-few_rows
insert_key_chunk-requires-clause-few_rows g c =
    let keys = keys_of c.args.keys.now in
    let p = c.loop-p.p in
    let lists = map its c.args.lists.now in
    let e = list_is c.args.lists.now p c.index-lists-p.result c.deref.result.now c.index-lists-p.is (omega arith) c.deref.ensures.value in
    part_few keys (keys_of c.in_ok-part.part) (get_or lists p []) c.item_mut.result.now (get_or c.args.tables.now p no_table) (c.in_ok-part.ensures.keys ∙ ap (keys_at keys) e) (c.requires.inside p).1 (next_table (inserted keys lists) p c.args.tables.now c.loop-p.tables c.item_mut.result.now c.loop-p.invariant.changed c.item_mut.ensures.value) (c.requires.room p)

pub insert_key_chunk-requires-clause-few_chunks : goal.insert_key_chunk-requires-clause-few_chunks
insert_key_chunk-requires-clause-few_chunks g c =
    let keys = keys_of c.args.keys.now in
    let p = c.loop-p.p in
    let lists = map its c.args.lists.now in
    let e = list_is c.args.lists.now p c.index-lists-p.result c.deref.result.now c.index-lists-p.is (omega arith) c.deref.ensures.value in
    chunks_few keys (keys_of c.in_ok-part.part) (get_or lists p []) c.item_mut.result.now (get_or c.args.tables.now p no_table) (c.in_ok-part.ensures.keys ∙ ap (keys_at keys) e) (c.requires.inside p).1 (next_table (inserted keys lists) p c.args.tables.now c.loop-p.tables c.item_mut.result.now c.loop-p.invariant.changed c.item_mut.ensures.value) (c.requires.room p)

pub insert_key_chunk-requires-clause-few : goal.insert_key_chunk-requires-clause-few
insert_key_chunk-requires-clause-few g c =
    let keys = keys_of c.args.keys.now in
    let p = c.loop-p.p in
    let lists = map its c.args.lists.now in
    let e = list_is c.args.lists.now p c.index-lists-p.result c.deref.result.now c.index-lists-p.is (omega arith) c.deref.ensures.value in
    size_few keys (keys_of c.in_ok-part.part) (get_or lists p []) c.item_mut.result.now (get_or c.args.tables.now p no_table) (c.in_ok-part.ensures.keys ∙ ap (keys_at keys) e) (c.requires.inside p).1 (next_table (inserted keys lists) p c.args.tables.now c.loop-p.tables c.item_mut.result.now c.loop-p.invariant.changed c.item_mut.ensures.value) (c.requires.room p)

pub insert_key_chunk-requires-clause-same_state : goal.insert_key_chunk-requires-clause-same_state
insert_key_chunk-requires-clause-same_state g c =
    let keys = keys_of c.args.keys.now in
    let p = c.loop-p.p in
    let lists = map its c.args.lists.now in
    let was = next_table (inserted keys lists) p c.args.tables.now c.loop-p.tables c.item_mut.result.now c.loop-p.invariant.changed c.item_mut.ensures.value in
    c.in_ok-part.ensures.state ∙ state_here (state_of c.args.keys.now) c.args.tables.now p c.requires.same_state (omega (arith, c.requires.one_each)) ∙ ap (λ (t : ProbeTable). t.state) (sym was)

pub loop-p-preserved : goal.loop-p-preserved
loop-p-preserved g c =
    let keys = keys_of c.args.keys.now in
    let p = c.loop-p.p in
    let lists = map its c.args.lists.now in
    let e = list_is c.args.lists.now p c.index-lists-p.result c.deref.result.now c.index-lists-p.is (omega arith) c.deref.ensures.value in
    let part : keys_of c.in_ok-part.part ≡ keys_at keys (get_or lists p []) = c.in_ok-part.ensures.keys ∙ ap (keys_at keys) e in
    let was = next_table (inserted keys lists) p c.args.tables.now c.loop-p.tables c.item_mut.result.now c.loop-p.invariant.changed c.item_mut.ensures.value in
    let now : c.insert_key_chunk.new.self ≡ inserted keys lists p (get_or c.args.tables.now p no_table) = c.in_ok-insert_key_chunk.ensures.ok ∙ ap₂ (λ (t : ProbeTable) (ks : List Key). with_chunk true t ks) was part in
    record {
      changed = changed_more (inserted keys lists) p c.args.tables.now c.loop-p.tables c.insert_key_chunk.new.self c.loop-p.invariant.changed (omega (arith, c.requires.one_each)) now;
      cost = omega (arith, c.loop-p.invariant.cost, c.in_ok-insert_key_chunk.ensures.cost, count_short is_some (keys_of c.in_ok-part.part), ap length part, length-map (get_or lists p []) (key_at keys), rows_more c.args.lists.now p c.index-lists-p.result c.index-lists-p.is (omega arith));
    }

pub returns-clause-ok : goal.returns-clause-ok
returns-clause-ok g c = changed_all (inserted (keys_of c.args.keys.now) (map its c.args.lists.now)) c.loop-p.p c.args.tables.now c.loop-p.tables c.loop-p.invariant.changed (omega (arith, c.requires.one_each))
