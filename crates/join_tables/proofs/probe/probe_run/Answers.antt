use Rattle.std.proofs.Common.{List, ◌++◌, map, length, take, sym, ap, ◌∙◌, arith}
use Rattle.std.proofs.lemmas.List.{length-map, length-append}
use Rattle.std.proofs.lemmas.Result.{err_from_is_err_and}
use Rattle.key_parts.specs.Positions.{position}
use Rattle.hash_keys.specs.Views.{keys_of}
use Rattle.chunked_idx_table.specs.Probes.{row_matches}
use Rattle.join_laws.specs.declared.Pair.{Pair}
use Rattle.join_laws.proofs.Probes.{processed_some, processed_front}
use Rattle.join_tables.proofs.Runs.{run_long, run_fits, run_pairs, run_count, front_short, searches_short}
use Rattle.join_tables.specs.Probing.{found_in}
use Rattle.join_tables.proofs.probe.probe_run.Goals as goal

pub returns-in_err-taken-clause-err : goal.returns-in_err-taken-clause-err
returns-in_err-taken-clause-err g c =
    let a = c.in_err-taken.ensures.err in
    let p = err_from_is_err_and c.from_residual.result c.from_residual.ensures.1 in
    rw p.1 (a.count, a.answered.marks_are)

pub returns-then-len-room-clause-fails : goal.returns-then-len-room-clause-fails
returns-then-len-room-clause-fails g c =
    let keys = keys_of c.args.probing.now.keys.now in
    let places = c.args.probing.now.places.now in
    let keep = c.args.probing.now.plan.now.keep_probe in
    let t = c.args.table.now in
    let rows = c.args.rows.now in
    let n = c.in_ok-taken.taken in
    let ids = c.probe_subset.new.table_match.items in
    let count = run_count places c.args.partition keys keep t c.probe_subset.new.self (take n rows) (map position ids) c.probe_subset.new.probe_match.items c.in_ok-taken.ensures.ok in
    omega (arith, count, front_short places keep keys t c.args.partition rows n, length-map ids position, length-append c.args.pairs.now.items (found_in c.args.probing.now t c.args.partition rows), c.requires.within, c.if-len-room.true, c.probe_subset.new.table_match.ok, c.args.pairs.now.ok, c.len.ensures, c.len-2.ensures)

pub returns-then-len-room-clause-err : goal.returns-then-len-room-clause-err
returns-then-len-room-clause-err g c = (c.in_ok-taken.taken, c.in_ok-taken.ensures.ok.marks_are)

pub take_reply-requires-clause-long : goal.take_reply-requires-clause-long
take_reply-requires-clause-long g c =
    let keys = keys_of c.args.probing.now.keys.now in
    let ids = c.probe_subset.new.table_match.items in
    sym (length-map ids position) ∙ run_long c.args.probing.now.places.now c.args.partition keys c.args.probing.now.plan.now.keep_probe c.args.table.now c.probe_subset.new.self (take c.in_ok-taken.taken c.args.rows.now) (map position ids) c.probe_subset.new.probe_match.items c.in_ok-taken.ensures.ok

pub take_reply-requires-clause-inside : goal.take_reply-requires-clause-inside
take_reply-requires-clause-inside g c =
    let keys = keys_of c.args.probing.now.keys.now in
    let ids = c.probe_subset.new.table_match.items in
    run_fits c.args.probing.now.places.now c.args.partition keys c.args.probing.now.plan.now.keep_probe c.args.table.now c.probe_subset.new.self (take c.in_ok-taken.taken c.args.rows.now) (map position ids) c.probe_subset.new.probe_match.items c.in_ok-taken.ensures.ok c.requires.fits

pub returns-clause-some : goal.returns-clause-some
returns-clause-some g c = omega (arith, processed_some (row_matches c.args.table.now (keys_of c.args.probing.now.keys.now) c.args.probing.now.plan.now.keep_probe) c.args.probing.now.plan.now.limit c.args.rows.now c.requires.some, c.in_ok-taken.ensures.count)

pub returns-clause-front : goal.returns-clause-front
returns-clause-front g c = omega (arith, processed_front (row_matches c.args.table.now (keys_of c.args.probing.now.keys.now) c.args.probing.now.plan.now.keep_probe) c.args.probing.now.plan.now.limit c.args.rows.now, c.in_ok-taken.ensures.count)

pub returns-clause-pairs : goal.returns-clause-pairs
returns-clause-pairs g c =
    let keys = keys_of c.args.probing.now.keys.now in
    let ids = c.probe_subset.new.table_match.items in
    c.in_ok-take_reply.ensures ∙ ap (λ (qs : List Pair). c.args.pairs.now.items ++ qs) (run_pairs c.args.probing.now.places.now c.args.partition keys c.args.probing.now.plan.now.keep_probe c.args.table.now c.probe_subset.new.self (take c.in_ok-taken.taken c.args.rows.now) (map position ids) c.probe_subset.new.probe_match.items c.in_ok-taken.ensures.ok)

pub returns-clause-within : goal.returns-clause-within
returns-clause-within g c =
    let keys = keys_of c.args.probing.now.keys.now in
    let ids = c.probe_subset.new.table_match.items in
    let rows = take c.in_ok-taken.taken c.args.rows.now in
    let count = run_count c.args.probing.now.places.now c.args.partition keys c.args.probing.now.plan.now.keep_probe c.args.table.now c.probe_subset.new.self rows (map position ids) c.probe_subset.new.probe_match.items c.in_ok-taken.ensures.ok in
    omega (arith, ap length (returns-clause-pairs g c), length-append c.args.pairs.now.items (found_in c.args.probing.now c.args.table.now c.args.partition rows), count, length-map ids position, c.requires.within, c.if-len-room.false, c.probe_subset.new.table_match.ok, c.args.pairs.now.ok, c.len.ensures, c.len-2.ensures)

pub returns-clause-marked : goal.returns-clause-marked
returns-clause-marked g c = c.in_ok-taken.ensures.ok.marks_are

pub returns-clause-cost : goal.returns-clause-cost
returns-clause-cost g c =
    let rows = c.args.rows.now in
    let n = c.in_ok-taken.taken in
    omega (arith, c.in_ok-taken.ensures.cost, searches_short (keys_of c.args.probing.now.keys.now) rows n (omega (arith, processed_front (row_matches c.args.table.now (keys_of c.args.probing.now.keys.now) c.args.probing.now.plan.now.keep_probe) c.args.probing.now.plan.now.limit rows, c.in_ok-taken.ensures.count)))
