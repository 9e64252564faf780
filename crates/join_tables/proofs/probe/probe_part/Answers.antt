use Rattle.std.proofs.Common.{◌+◌, ◌-◌, List, [], length, take, drop, refl, sym, ap, ◌∙◌, subst, arith}
use Rattle.std.proofs.lemmas.List.{length-drop, take_rest}
use Rattle.std.proofs.lemmas.Result.{err_from_is_err_and}
use Rattle.hash_keys.specs.Views.{keys_of}
use Rattle.chunked_idx_table.specs.Probes.{joins_any, keys_at}
use Rattle.chunked_idx_table.specs.Tables.{ProbeTable}
use Rattle.join_laws.specs.declared.Pair.{Pair}
use Rattle.join_laws.specs.Partitions.{TableFits}
use Rattle.join_laws.proofs.Probes.{fits_marked, marked_none}
use Rattle.join_tables.proofs.Runs.{runs_more, runs_whole, runs_marks}
use Rattle.join_tables.specs.Tables.{ProbeFails}
use Rattle.join_tables.proofs.probe.probe_part.Goals as goal

pub loop-done-init : goal.loop-done-init
loop-done-init g c = record {
  front = omega arith;
  pairs_are = c.new-pairs.ensures.items;
  within = omega (arith, ap length c.new-pairs.ensures.items);
  marked = sym (marked_none (joins_any []) c.args.table.now (λ k. refl));
  cost = omega arith;
}

pub probe_run-requires-clause-same_state : goal.probe_run-requires-clause-same_state
probe_run-requires-clause-same_state g c = c.requires.same_state ∙ sym (ap (λ (t : ProbeTable). t.state) c.loop-done.invariant.marked)

pub probe_run-requires-clause-fits : goal.probe_run-requires-clause-fits
probe_run-requires-clause-fits g c =
    let keys = keys_of c.args.probing.now.keys.now in
    subst (λ (t : ProbeTable). TableFits c.args.probing.now.places.now c.args.partition t) (sym c.loop-done.invariant.marked) (fits_marked c.args.probing.now.places.now c.args.partition (joins_any (keys_at keys (take c.loop-done.done c.args.rows.now))) c.args.table.now c.requires.fits)

pub returns-in_err-done-clause-fails : goal.returns-in_err-done-clause-fails
returns-in_err-done-clause-fails g c =
    let keys = keys_of c.args.probing.now.keys.now in
    let i = c.loop-done.done in
    let rows = c.args.rows.now in
    let whole = runs_whole c.args.probing.now.places.now c.args.probing.now.plan.now.keep_probe keys c.args.table.now c.loop-done.table c.args.partition rows (take (length rows - i) (drop i rows)) i (take_rest rows i) c.loop-done.invariant.marked c.loop-done.pairs.items c.loop-done.invariant.pairs_are in
    let p = err_from_is_err_and c.from_residual.result c.from_residual.ensures.1 in
    rw (p.1, p.2) (subst (λ (ps : List Pair). ProbeFails c.args.room ps c.in_err-done.field-0.0) whole c.in_err-done.ensures.fails)

pub returns-in_err-done-clause-err : goal.returns-in_err-done-clause-err
returns-in_err-done-clause-err g c =
    let keys = keys_of c.args.probing.now.keys.now in
    let i = c.loop-done.done in
    let rows = c.args.rows.now in
    let b = c.in_err-done.ensures.err in
    let p = err_from_is_err_and c.from_residual.result c.from_residual.ensures.1 in
    rw p.1 (i + b.0, runs_marks c.args.probing.now.places.now c.args.probing.now.plan.now.keep_probe keys c.args.table.now c.loop-done.table c.args.partition rows (take (length rows - i) (drop i rows)) i (take_rest rows i) c.loop-done.invariant.marked b.0 c.probe_run.new.table b.1)

pub loop-done-preserved : goal.loop-done-preserved
loop-done-preserved g c =
    let keys = keys_of c.args.probing.now.keys.now in
    let t = c.args.table.now in
    let i = c.loop-done.done in
    let n = c.in_ok-done.field-0 in
    let rows = c.args.rows.now in
    let rest = take (length rows - i) (drop i rows) in
    let front = c.in_ok-done.ensures.front in
    let long = length-drop i rows in
    let same = ap length (take_rest rows i) in
    record {
      front = omega (arith, front, long, same, c.loop-done-test.true);
      pairs_are = runs_more c.args.probing.now.places.now c.args.probing.now.plan.now.keep_probe keys t c.loop-done.table c.args.partition rows rest i (take_rest rows i) c.loop-done.invariant.marked n c.loop-done.pairs.items c.probe_run.new.pairs.items c.loop-done.invariant.pairs_are c.in_ok-done.ensures.pairs;
      within = c.in_ok-done.ensures.within;
      marked = runs_marks c.args.probing.now.places.now c.args.probing.now.plan.now.keep_probe keys t c.loop-done.table c.args.partition rows rest i (take_rest rows i) c.loop-done.invariant.marked n c.probe_run.new.table c.in_ok-done.ensures.marked;
      cost = omega (arith, c.in_ok-done.ensures.cost, c.loop-done.invariant.cost);
    }
