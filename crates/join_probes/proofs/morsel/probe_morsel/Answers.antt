use Rattle.std.proofs.Common.{ℕ, List, sym, subst}
use Rattle.std.proofs.lemmas.Result.{err_from_is_err_and}
use Rattle.hash_keys.specs.Views.{keys_of}
use Rattle.join_probes.specs.Keys.{AreKnown}
use Rattle.join_probes.proofs.Calls.{failures_given, marks_given, marks_more, pairs_inside, rows_given, some_stand}
use Rattle.join_probes.proofs.Fields.{probe_known}
use Rattle.join_probes.proofs.Query.{built_same}
use Rattle.join_probes.proofs.morsel.probe_morsel.Goals as goal

pub side_keys-requires-clause-known : goal.side_keys-requires-clause-known
side_keys-requires-clause-known g c =
    let q = c.args.query.now in
    subst (λ (names : List (List ℕ)). AreKnown q.probe_schema names) (sym c.as_slice.ensures) (probe_known q c.requires.can.known)

pub returns-in_err-keys-clause-err : goal.returns-in_err-keys-clause-err
returns-in_err-keys-clause-err g c =
    let e = err_from_is_err_and c.from_residual.result c.from_residual.ensures.1 in
    rw e.1 (λ build marked b. built_same c.args.query.now build marked c.args.morsel.now.rows c.args.built.now b)

pub probe_morsel-requires-clause-stands : goal.probe_morsel-requires-clause-stands
probe_morsel-requires-clause-stands g c = some_stand c.args.query.now c.table_plan-plan.result c.args.built.now c.table_plan-plan.ensures c.requires.built

pub returns-clause-rows : goal.returns-clause-rows
returns-clause-rows g c =
    rows_given c.args.query.now c.as_slice.result.now c.as_slice.ensures c.args.morsel.now c.table_plan-plan.result c.table_plan-plan.ensures (keys_of c.in_ok-keys.keys) c.in_ok-keys.ensures.keys c.args.built.now c.probe_morsel.result
    c.requires.can c.in_ok-keys.ensures.spelled c.probe_morsel.ensures.pairs

pub returns-clause-inside : goal.returns-clause-inside
returns-clause-inside g c =
    pairs_inside c.args.query.now c.as_slice.result.now c.as_slice.ensures c.args.morsel.now c.table_plan-plan.result c.table_plan-plan.ensures (keys_of c.in_ok-keys.keys) c.in_ok-keys.ensures.keys c.args.built.now c.probe_morsel.result
    c.probe_morsel.ensures.pairs

pub returns-clause-marked : goal.returns-clause-marked
returns-clause-marked g c =
    marks_given c.args.query.now c.as_slice.result.now c.as_slice.ensures c.args.morsel.now c.table_plan-plan.result c.table_plan-plan.ensures (keys_of c.in_ok-keys.keys) c.in_ok-keys.ensures.keys c.args.built.now c.probe_morsel.result
    c.probe_morsel.new.built c.probe_morsel.ensures.marked

pub returns-clause-fails : goal.returns-clause-fails
returns-clause-fails g c =
    failures_given c.args.query.now c.as_slice.result.now c.as_slice.ensures c.args.morsel.now c.table_plan-plan.result c.table_plan-plan.ensures (keys_of c.in_ok-keys.keys) c.in_ok-keys.ensures.keys c.args.built.now c.probe_morsel.result
    c.requires.can c.in_ok-keys.ensures.spelled c.args.most c.probe_morsel.ensures.fails

pub returns-clause-err : goal.returns-clause-err
returns-clause-err g c =
    marks_more c.args.query.now c.as_slice.result.now c.as_slice.ensures c.args.morsel.now c.table_plan-plan.result c.table_plan-plan.ensures (keys_of c.in_ok-keys.keys) c.in_ok-keys.ensures.keys c.args.built.now c.probe_morsel.result
    c.probe_morsel.new.built c.probe_morsel.ensures.err
