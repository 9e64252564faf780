use Rattle.std.proofs.Common.{◌≡◌, ◌<◌, ◌≤◌, ◌+◌, ◌∙◌, ◌++◌, ap, sym, subst, map, length, take, get_or, List, ℕ, Bool, Option, Some, None, option_copied, arith}
use Rattle.std.specs.Prelude.{IfSome}
use Rattle.std.specs.List.{flat_map}
use Rattle.std.proofs.lemmas.List.{take_all}
use Rattle.std.proofs.lemmas.Result.{err_from_is_err_and}
use Rattle.key_parts.specs.declared.hash.PlRandomState.{PlRandomState}
use Rattle.key_parts.specs.Positions.{Position, position}
use Rattle.key_parts.specs.Hashes.{hash_of}
use Rattle.hash_keys.specs.Keys.{Key, key_at}
use Rattle.hash_keys.specs.Views.{keys_of}
use Rattle.chunked_idx_table.specs.Tables.{ProbeTable}
use Rattle.chunked_idx_table.specs.Inserts.{searches}
use Rattle.chunked_idx_table.specs.Probes.{row_matches, matches, marked_more, is_key, asked_rows, keys_at, Answered}
use Rattle.chunked_idx_table.proofs.Replies.{counted_at, counted_all}
use Rattle.chunked_idx_table.proofs.Marks.{answered_turn, answered_same, answered_none, probe_cost_step, row_inside, place_inside, hashed_same, length-seen}
use Rattle.chunked_idx_table.proofs.row_encoded.RowEncodedChunkedIdxTable.probe_asked.Goals as goal

pub loop-i-init : goal.loop-i-init
loop-i-init g c = record {
  answered = answered_none c.args.mark_matches c.args.emit_unmatched c.args.self.now (keys_of c.args.hash_keys.now) (map position c.clear.new.self.items) c.clear-2.new.self.items (ap (map position) c.clear.ensures.items) c.clear-2.ensures.items;
  few = λ p. absurd (omega arith);
  cost = omega arith;
}

pub asked_row-row-requires : goal.asked_row-row-requires
asked_row-row-requires g c = place_inside c.args.subset (keys_of c.args.hash_keys.now) c.loop-i.i (omega (arith, c.number_asked-count.ensures))

pub key-key-requires : goal.key-key-requires
key-key-requires g c =
    let keys = keys_of c.args.hash_keys.now in
    let idxs = asked_rows keys (option_copied c.args.subset) in
    let f = row_matches c.args.self.now keys c.args.emit_unmatched in
    let i = c.loop-i.i in
    let h : i < length idxs = omega (arith, c.number_asked-count.ensures) in
    let row = c.asked_row-row.result in
    let at : row ≡ get_or idxs i 0 = c.asked_row-row.ensures keys h in
    row_inside keys idxs i row c.requires.inside h at

pub hash-hash-requires : goal.hash-hash-requires
hash-hash-requires g c =
    let keys = keys_of c.args.hash_keys.now in
    let idxs = asked_rows keys (option_copied c.args.subset) in
    let f = row_matches c.args.self.now keys c.args.emit_unmatched in
    let i = c.loop-i.i in
    let h : i < length idxs = omega (arith, c.number_asked-count.ensures) in
    let row = c.asked_row-row.result in
    let at : row ≡ get_or idxs i 0 = c.asked_row-row.ensures keys h in
    row_inside keys idxs i row c.requires.inside h at

pub answer-requires : goal.answer-requires
answer-requires g c =
    let keys = keys_of c.args.hash_keys.now in
    let o : Key = key_at keys c.asked_row-row.result in
    let state = c.requires.same_state ∙ sym (ap (λ (t : ProbeTable). t.state) c.loop-i.invariant.answered.marks_are) in
    hashed_same c.loop-i.self.state c.hash-hash.result c.key-key.result o c.key-key.ensures (subst (λ (s : PlRandomState). IfSome o (λ k. c.hash-hash.result ≡ hash_of s k)) state c.hash-hash.ensures)

pub loop-i-preserved : goal.loop-i-preserved
loop-i-preserved g c =
    let keys = keys_of c.args.hash_keys.now in
    let idxs = asked_rows keys (option_copied c.args.subset) in
    let f = row_matches c.args.self.now keys c.args.emit_unmatched in
    let i = c.loop-i.i in
    let h : i < length idxs = omega (arith, c.number_asked-count.ensures) in
    let row = c.asked_row-row.result in
    let at : row ≡ get_or idxs i 0 = c.asked_row-row.ensures keys h in
    let inv = c.loop-i.invariant in
    let a = answered_turn c.args.mark_matches c.args.emit_unmatched c.args.self.now keys idxs i row (option_copied c.key-key.result) c.loop-i.self c.answer.new.self (map position c.loop-i.table_match.items) (map position c.answer.new.table_match.items) c.loop-i.probe_match.items c.answer.new.probe_match.items h at c.key-key.ensures inv.answered c.in_ok-answer.ensures.positions c.in_ok-answer.ensures.indexes c.in_ok-answer.ensures.marked in
    record {
      answered = a;
      few = λ _. omega arith;
      cost = probe_cost_step keys idxs i row c.key-key.result c.args.steps.now c.loop-i.steps c.answer.new.steps h at c.key-key.ensures inv.cost c.in_ok-answer.ensures.cost;
    }

pub returns-then-len-limit-clause-count : goal.returns-then-len-limit-clause-count
returns-then-len-limit-clause-count g c =
    let keys = keys_of c.args.hash_keys.now in
    let idxs = asked_rows keys (option_copied c.args.subset) in
    let f = row_matches c.args.self.now keys c.args.emit_unmatched in
    let i = c.loop-i.i in
    let h : i < length idxs = omega (arith, c.number_asked-count.ensures) in
    let row = c.asked_row-row.result in
    let at : row ≡ get_or idxs i 0 = c.asked_row-row.ensures keys h in
    let inv = c.loop-i.invariant in
    let a = answered_turn c.args.mark_matches c.args.emit_unmatched c.args.self.now keys idxs i row (option_copied c.key-key.result) c.loop-i.self c.answer.new.self (map position c.loop-i.table_match.items) (map position c.answer.new.table_match.items) c.loop-i.probe_match.items c.answer.new.probe_match.items h at c.key-key.ensures inv.answered c.in_ok-answer.ensures.positions c.in_ok-answer.ensures.indexes c.in_ok-answer.ensures.marked in
    counted_at f c.args.limit idxs i (length c.loop-i.table_match.items) (length c.answer.new.table_match.items) h (length-seen position c.loop-i.table_match.items _ inv.answered.positions_are) inv.few (length-seen position c.answer.new.table_match.items _ a.positions_are) (omega arith)

pub returns-then-len-limit-clause-ok : goal.returns-then-len-limit-clause-ok
returns-then-len-limit-clause-ok g c =
    let keys = keys_of c.args.hash_keys.now in
    let idxs = asked_rows keys (option_copied c.args.subset) in
    let f = row_matches c.args.self.now keys c.args.emit_unmatched in
    let i = c.loop-i.i in
    let h : i < length idxs = omega (arith, c.number_asked-count.ensures) in
    let row = c.asked_row-row.result in
    let at : row ≡ get_or idxs i 0 = c.asked_row-row.ensures keys h in
    let inv = c.loop-i.invariant in
    let a = answered_turn c.args.mark_matches c.args.emit_unmatched c.args.self.now keys idxs i row (option_copied c.key-key.result) c.loop-i.self c.answer.new.self (map position c.loop-i.table_match.items) (map position c.answer.new.table_match.items) c.loop-i.probe_match.items c.answer.new.probe_match.items h at c.key-key.ensures inv.answered c.in_ok-answer.ensures.positions c.in_ok-answer.ensures.indexes c.in_ok-answer.ensures.marked in
    a

pub returns-then-len-limit-clause-cost : goal.returns-then-len-limit-clause-cost
returns-then-len-limit-clause-cost g c =
    let keys = keys_of c.args.hash_keys.now in
    let idxs = asked_rows keys (option_copied c.args.subset) in
    let f = row_matches c.args.self.now keys c.args.emit_unmatched in
    let i = c.loop-i.i in
    let h : i < length idxs = omega (arith, c.number_asked-count.ensures) in
    let row = c.asked_row-row.result in
    let at : row ≡ get_or idxs i 0 = c.asked_row-row.ensures keys h in
    probe_cost_step keys idxs i row c.key-key.result c.args.steps.now c.loop-i.steps c.answer.new.steps h at c.key-key.ensures c.loop-i.invariant.cost c.in_ok-answer.ensures.cost

pub returns-clause-count : goal.returns-clause-count
returns-clause-count g c =
    let keys = keys_of c.args.hash_keys.now in
    let idxs = asked_rows keys (option_copied c.args.subset) in
    let f = row_matches c.args.self.now keys c.args.emit_unmatched in
    let inv = c.loop-i.invariant in
    let e : c.number_asked-count.result ≡ c.loop-i.i = omega arith in
    rw e (counted_all f c.args.limit idxs c.loop-i.i (length c.loop-i.table_match.items) (omega (arith, c.number_asked-count.ensures)) (length-seen position c.loop-i.table_match.items _ inv.answered.positions_are) inv.few)

pub returns-clause-ok : goal.returns-clause-ok
returns-clause-ok g c =
    let e : c.number_asked-count.result ≡ c.loop-i.i = omega arith in
    rw e c.loop-i.invariant.answered

pub returns-clause-cost : goal.returns-clause-cost
returns-clause-cost g c =
    let e : c.number_asked-count.result ≡ c.loop-i.i = omega arith in
    rw e c.loop-i.invariant.cost

pub returns-in_err-answer-clause-err : goal.returns-in_err-answer-clause-err
returns-in_err-answer-clause-err g c =
    let keys = keys_of c.args.hash_keys.now in
    let idxs = asked_rows keys (option_copied c.args.subset) in
    let f = row_matches c.args.self.now keys c.args.emit_unmatched in
    let i = c.loop-i.i in
    let h : i < length idxs = omega (arith, c.number_asked-count.ensures) in
    let row = c.asked_row-row.result in
    let at : row ≡ get_or idxs i 0 = c.asked_row-row.ensures keys h in
    let p = err_from_is_err_and c.from_residual.result c.from_residual.ensures.1 in
    let a = answered_same c.args.mark_matches c.args.emit_unmatched c.args.self.now keys (take i idxs) c.loop-i.self c.answer.new.self (map position c.loop-i.table_match.items) (map position c.answer.new.table_match.items) c.loop-i.probe_match.items c.answer.new.probe_match.items c.loop-i.invariant.answered (ap (map position) c.in_err-answer.ensures.err) c.in_err-answer.ensures.err_indexes c.in_err-answer.ensures.err_marks in
    rw p.1 (record {
      count = i;
      some_left = h;
      answered = a;
      cost = probe_cost_step keys idxs i row c.key-key.result c.args.steps.now c.loop-i.steps c.answer.new.steps h at c.key-key.ensures c.loop-i.invariant.cost c.in_err-answer.ensures.cost;
    })
