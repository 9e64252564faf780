use Rattle.std.proofs.Common.{◌≡◌, ◌-◌, false, flat_map, length, map, take, drop, sym, ap, ◌∙◌, subst, arith}
use Rattle.std.proofs.lemmas.List.{length-drop, take_rest}
use Rattle.key_parts.specs.Positions.{position}
use Rattle.hash_keys.specs.Views.{keys_of}
use Rattle.chunked_idx_table.specs.Probes.{row_matches}
use Rattle.chunked_idx_table.specs.Tables.{ProbeTable}
use Rattle.join_laws.proofs.Probes.{processed_front, processed_some}
use Rattle.callers.proofs.Probed.{replies_more, stays}
use Rattle.callers.proofs.probing.all_matches.Goals as goal

pub probe_subset-requires-clause-same_state : goal.probe_subset-requires-clause-same_state
probe_subset-requires-clause-same_state g c = c.requires.same_state ∙ sym (ap (λ (t : ProbeTable). t.state) c.loop-done.invariant.same)

pub loop-done-preserved : goal.loop-done-preserved
loop-done-preserved g c =
    let keys = keys_of c.args.keys.now in
    let t = c.args.table.now in
    let now = c.loop-done.table in
    let i = c.loop-done.done in
    let n = c.in_ok-done.field-0 in
    let rows = c.args.rows.now in
    let rest = take (length rows - i) (drop i rows) in
    let reply = c.probe_subset.new.table_match.items in
    record {
      front = omega (arith, processed_front (row_matches now keys false) c.args.limit rest, c.in_ok-done.ensures.count, length-drop i rows, ap length (take_rest rows i), c.loop-done-test.true);
      matches_are = replies_more (row_matches t keys false) position rows rest i n c.loop-done.matches.items reply c.deref.result.now c.extend_from_slice.new.self.items (take_rest rows i) c.loop-done.invariant.matches_are
          (subst (λ (u : ProbeTable). map position reply ≡ flat_map (row_matches u keys false) (take n rest)) c.loop-done.invariant.same c.in_ok-done.ensures.ok.positions_are)
          c.deref.ensures.value c.in_ok-extend_from_slice.ensures.items;
      same = stays keys (take n rest) t now c.probe_subset.new.self c.in_ok-done.ensures.ok.marks_are c.loop-done.invariant.same;
    }

pub loop-done-smaller : goal.loop-done-smaller
loop-done-smaller g c =
    let now = c.loop-done.table in
    let i = c.loop-done.done in
    let rows = c.args.rows.now in
    let rest = take (length rows - i) (drop i rows) in
    let some = processed_some (row_matches now (keys_of c.args.keys.now) false) c.args.limit rest (omega (arith, length-drop i rows, ap length (take_rest rows i), c.loop-done-test.true)) in
    omega (arith, some, c.in_ok-done.ensures.count, c.loop-done-test.true)
