use Rattle.std.proofs.Common.{◌≡◌, ℕ, ◌<◌, List, [], ◌∷◌, ◌++◌, length, get_or, flat_map, sym, ap, ap₂, ◌∙◌, subst, append-nil, arith}
use Rattle.std.specs.List.{range_with_len}
use Rattle.std.proofs.lemmas.List.{get_or_default}
use Rattle.std.proofs.lemmas.List.Concat.{flat_map-append}
use Rattle.key_parts.proofs.Partitions.{partition_of-below}
use Rattle.col_core.specs.declared.row_place.RowPlace.{RowPlace}
use Rattle.chunked_idx_table.specs.Tables.{ProbeTable}
use Rattle.chunked_idx_table.specs.Probes.{items}
use Rattle.list_laws.proofs.Lists.{range_upto}
use Rattle.join_laws.specs.Partitions.{item_rows, no_table, TableFits}
use Rattle.join_laws.proofs.Morsels.{stands_fits}
use Rattle.join_laws.proofs.OuterRows.{rows_sorted, items_few}
use Rattle.join_tables.specs.Tables.{part_of}
use Rattle.join_tables.proofs.outer.unmatched_rows.Goals as goal

-- a table of a loop
item_is : (now tables : List ProbeTable) (p : ℕ) (t : ProbeTable) → now ≡ tables → t ≡ get_or now p t → p < length now → t ≡ get_or tables p no_table
item_is now tables p t e i h = i ∙ get_or_default now p t no_table h ∙ ap (λ (ts : List ProbeTable). get_or ts p no_table) e

pub take_unmatched-requires-clause-fits : goal.take_unmatched-requires-clause-fits
take_unmatched-requires-clause-fits c =
    let s = c.requires.stands in
    let plan = c.args.plan.now in
    let e = item_is c.as_slice-table-items.result.now c.args.built.now.tables c.loop-p.p c.table-item.result c.as_slice-table-items.ensures c.table-item.is (omega arith) in
    subst (λ (t : ProbeTable). TableFits c.args.built.now.places c.loop-p.p t) (sym e) (stands_fits (part_of plan) plan.state plan.partitioner.partitions s.0 s.1 c.args.built.now.tables c.args.built.now.places s.2 c.loop-p.p)

pub take_unmatched-requires-clause-few : goal.take_unmatched-requires-clause-few
take_unmatched-requires-clause-few c =
    let s = c.requires.stands in
    let plan = c.args.plan.now in
    let e = item_is c.as_slice-table-items.result.now c.args.built.now.tables c.loop-p.p c.table-item.result c.as_slice-table-items.ensures c.table-item.is (omega arith) in
    omega (arith, ap (λ (t : ProbeTable). length (items t)) e, items_few (part_of plan) plan.state plan.partitioner.partitions s.0 s.1 c.args.built.now.tables c.args.built.now.places s.2 c.loop-p.p, s.3)

pub loop-p-preserved : goal.loop-p-preserved
loop-p-preserved c =
    let p = c.loop-p.p in
    let f : ℕ → List RowPlace = λ q. item_rows c.args.built.now.places q (get_or c.args.built.now.tables q no_table) in
    let e = item_is c.as_slice-table-items.result.now c.args.built.now.tables p c.table-item.result c.as_slice-table-items.ensures c.table-item.is (omega arith) in
    c.in_ok-take_unmatched.ensures ∙ ap₂ (λ (rs : List RowPlace) (t : ProbeTable). rs ++ item_rows c.args.built.now.places p t) c.loop-p.invariant e
    ∙ sym (ap (flat_map f) (range_upto p) ∙ flat_map-append f (range_with_len 0 p) (p ∷ []) ∙ ap (λ (rs : List RowPlace). flat_map f (range_with_len 0 p) ++ rs) (append-nil (f p)))

pub returns : goal.returns
returns c = λ frames marked s few.
    let plan = c.args.plan.now in
    let ts = c.args.built.now.tables in
    let f : ℕ → List RowPlace = λ q. item_rows c.args.built.now.places q (get_or ts q no_table) in
    let n : c.loop-p.p ≡ length ts = omega (arith, ap length c.as_slice-table-items.ensures) in
    c.from_vec.ensures ∙ rows_sorted (part_of plan) plan.state plan.partitioner.partitions frames marked ts c.args.built.now.places c.loop-p.rows.items c.sort_places.new.places.items (λ o. partition_of-below plan.state plan.partitioner o (omega arith)) s few (c.loop-p.invariant ∙ ap (λ m. flat_map f (range_with_len 0 m)) n) c.sort_places.ensures.same c.sort_places.ensures.rises
