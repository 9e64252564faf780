use Rattle.std.proofs.Common.{List, length, ap, ◌∙◌, arith}
use Rattle.std.proofs.lemmas.Result.{err_from_is_err_and}
use Rattle.col_core.specs.Tables.{Row, Table}
use Rattle.join_model.specs.Answers.{group_schema, joined_schema}
use Rattle.join_model.specs.Groups.{group_rows}
use Rattle.join_engine.specs.AnswerLocals.{joined_morsels}
use Rattle.join_engine.proofs.Listed.{fails_cause}
use Rattle.join_engine.proofs.Morsels.{few_morsels, kept_morsels_are}
use Rattle.join_engine.proofs.engine.joined_answer.Goals as goal

pub returns-in_err-listing-clause-refused : goal.returns-in_err-listing-clause-refused
returns-in_err-listing-clause-refused g c =
    let p = err_from_is_err_and c.from_residual-in_err-listing.result c.from_residual-in_err-listing.ensures.1 in
    rw (p.1, p.2) (fails_cause c.args.query.now c.args.build.now c.args.probe.now _ c.in_err-listing.ensures.fails)

pub returns-clause-rows : goal.returns-clause-rows
returns-clause-rows g c =
    let q = c.args.query.now in
    let kept = kept_morsels_are q c.args.build.now c.args.probe.now c.requires.can.can_list.can_join.plan in
    let table : List Row → Table = λ rows. record { schema = joined_schema q; rows = rows } in
    c.in_ok-grouped_answer.ensures.rows (joined_morsels q c.args.build.now c.args.probe.now) c.in_ok-listing.ensures.listed ∙ ap table kept

pub returns-clause-groups : goal.returns-clause-groups
returns-clause-groups g c =
    let q = c.args.query.now in
    let kept = kept_morsels_are q c.args.build.now c.args.probe.now c.requires.can.can_list.can_join.plan in
    let grouped : List Row → Table = λ rows. record { schema = group_schema q; rows = group_rows q rows } in
    c.in_ok-grouped_answer.ensures.groups (joined_morsels q c.args.build.now c.args.probe.now) c.in_ok-listing.ensures.listed ∙ ap grouped kept

pub returns-clause-few : goal.returns-clause-few
returns-clause-few g c = few_morsels c.args.query.now c.args.build.now c.args.probe.now c.in_ok-listing.listing c.requires.can.can_list.can_join.plan c.in_ok-listing.ensures.listed

pub returns-clause-steps : goal.returns-clause-steps
returns-clause-steps g c =
    let kept = kept_morsels_are c.args.query.now c.args.build.now c.args.probe.now c.requires.can.can_list.can_join.plan in
    omega (arith, c.in_ok-built.ensures.cost, c.in_ok-listing.ensures.cost, c.in_ok-grouped_answer.ensures.cost, ap (λ (t : Table). length t.rows) c.in_ok-listing.ensures.listed.kept, ap length kept)
