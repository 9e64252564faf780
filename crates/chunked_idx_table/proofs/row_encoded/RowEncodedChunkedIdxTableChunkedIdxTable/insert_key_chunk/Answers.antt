use Rattle.std.proofs.Common.{◌≡◌, ◌<◌, ◌+◌, ◌^◌, ◌∙◌, ◌∷◌, [], ap, sym, subst, length, take, List, ℕ, Option, None, option_copied, arith}
use Rattle.std.specs.Prelude.{IfSome}
use Rattle.std.specs.Borrow.{Bor}
use Rattle.std.proofs.lemmas.List.{take_all}
use Rattle.std.proofs.lemmas.Result.{err_from_is_err_and}
use Rattle.key_parts.specs.declared.hash.PlRandomState.{PlRandomState}
use Rattle.key_parts.specs.Positions.{Position}
use Rattle.key_parts.specs.Hashes.{hash_of}
use Rattle.hash_keys.specs.Keys.{Key, key_at}
use Rattle.hash_keys.specs.Views.{keys_of}
use Rattle.chunked_idx_table.specs.Tables.{ProbeTable, size_of}
use Rattle.chunked_idx_table.specs.Inserts.{chunk_rows, with_rows, searches}
use Rattle.chunked_idx_table.proofs.Marks.{hashed_same}
use Rattle.chunked_idx_table.proofs.Rows.{chunk_turn, size_front, length-chunk_rows, cost_step}
use Rattle.chunked_idx_table.proofs.row_encoded.RowEncodedChunkedIdxTableChunkedIdxTable.insert_key_chunk.Goals as goal

pub insert_row-requires-clause-hashed : goal.insert_row-requires-clause-hashed
insert_row-requires-clause-hashed g c =
    let keys = keys_of c.args.keys in
    let o : Key = key_at keys c.loop-row.row in
    let state = c.requires.same_state ∙ sym (ap (λ (t : ProbeTable). t.state) c.loop-row.invariant.so_far) in
    hashed_same c.loop-row.self.state c.hash-hash.result c.key-key.result o c.key-key.ensures (subst (λ (s : PlRandomState). IfSome o (λ k. c.hash-hash.result ≡ hash_of s k)) state c.hash-hash.ensures)

pub insert_row-requires-clause-few : goal.insert_row-requires-clause-few
insert_row-requires-clause-few g c =
    let old = c.args.self.now in
    let keys = keys_of c.args.keys in
    let i = c.loop-row.row in
    let h : i < length keys = omega arith in
    let e = chunk_turn c.args.track_unmatchable old keys i (option_copied c.key-key.result) c.loop-row.self h c.key-key.ensures c.loop-row.invariant.so_far in
    omega (arith, ap size_of e, size_front c.args.track_unmatchable old (chunk_rows old.chunks keys) (i + 1), c.requires.few)

pub loop-row-preserved : goal.loop-row-preserved
loop-row-preserved g c =
    let old = c.args.self.now in
    let keys = keys_of c.args.keys in
    let i = c.loop-row.row in
    let h : i < length keys = omega arith in
    record {
      so_far = c.in_ok-insert_row.ensures.ok ∙ chunk_turn c.args.track_unmatchable old keys i (option_copied c.key-key.result) c.loop-row.self h c.key-key.ensures c.loop-row.invariant.so_far;
      cost = cost_step keys i c.key-key.result c.args.steps.now c.loop-row.steps c.insert_row.new.steps h c.key-key.ensures c.loop-row.invariant.cost c.in_ok-insert_row.ensures.cost;
    }

pub returns-clause-ok : goal.returns-clause-ok
returns-clause-ok g c =
    let old = c.args.self.now in
    let rows = chunk_rows old.chunks (keys_of c.args.keys) in
    let whole : take c.loop-row.row rows ≡ rows = take_all c.loop-row.row rows (omega (arith, length-chunk_rows old.chunks (keys_of c.args.keys))) in
    ap (λ (u : ProbeTable). record { entries = u.entries; nulls = u.nulls; chunks = u.chunks + 1; state = u.state }) (c.self.view_is ∙ c.loop-row.invariant.so_far ∙ ap (with_rows c.args.track_unmatchable old) whole)

pub returns-clause-cost : goal.returns-clause-cost
returns-clause-cost g c =
    let keys = keys_of c.args.keys in
    let whole : take c.loop-row.row keys ≡ keys = take_all c.loop-row.row keys (omega arith) in
    c.loop-row.invariant.cost ∙ ap (λ (ks : List Key). c.args.steps.now + searches ks) whole

pub returns-in_err-insert_row-clause-err : goal.returns-in_err-insert_row-clause-err
returns-in_err-insert_row-clause-err g c =
    let keys = keys_of c.args.keys in
    let i = c.loop-row.row in
    let h : i < length keys = omega arith in
    let p = err_from_is_err_and c.from_residual.result c.from_residual.ensures.1 in
    rw p.1 (record {
      taken = i;
      some_left = h;
      rows = c.in_err-insert_row.ensures.err ∙ c.loop-row.invariant.so_far;
      cost = cost_step keys i c.key-key.result c.args.steps.now c.loop-row.steps c.insert_row.new.steps h c.key-key.ensures c.loop-row.invariant.cost c.in_err-insert_row.ensures.cost;
    })
