use Rattle.std.proofs.Common.{◌≡◌, List, ◌++◌, subst, rules}
use Rattle.std.proofs.lemmas.Result.{IfErr-weaker, IfOk-weaker}
use Rattle.list_laws.specs.Runs.{runs}
use Rattle.col_core.specs.Tables.{Row}
use Rattle.join_model.specs.Joined.{joined_rows, rows_of}
use Rattle.join_probes.specs.AnswerTables.{answer_tables}
use Rattle.join_probes.specs.Probed.{HasProbed}
use Rattle.join_probes.proofs.Probes.{none_probed, tables_answered}
use Rattle.join_engine.specs.Listed.{outer_rows, probe_morsels, rows_of_each, IsListing, ListingFails}
use Rattle.join_engine.proofs.Listed.{good_morsel}
use Rattle.join_engine.proofs.Morsels.{probe_morsels_are}
use Rattle.join_engine.proofs.engine.listed_rows.Goals as goal

pub take_probe-requires-clause-none : goal.take_probe-requires-clause-none
take_probe-requires-clause-none g c = record {
  tables = none_probed c.args.query.now c.args.build.now c.args.built.now c.requires.built;
  rows = c.in_ok-listing.ensures;
}

pub returns-clause-listed : goal.returns-clause-listed
returns-clause-listed g c =
    let q = c.args.query.now in
    let build = c.args.build.now in
    let ms = probe_morsels q c.args.probe.now in
    let same = probe_morsels_are q c.args.probe.now (good_morsel q.plan c.requires.can.can_list.can_join.plan) in
    IfOk-weaker c.take_unmatched.result _ _ (λ after h. subst (λ (rows : List Row). IsListing q (rows_of_each q build ms ++ runs q.plan.morsel (outer_rows q build rows)) after) same (h ms c.in_ok-listing-2.ensures.listed)) c.take_unmatched.ensures.listed

pub returns-clause-fails : goal.returns-clause-fails
returns-clause-fails g c =
    let q = c.args.query.now in
    let build = c.args.build.now in
    let same = probe_morsels_are q c.args.probe.now (good_morsel q.plan c.requires.can.can_list.can_join.plan) in
    IfErr-weaker c.take_unmatched.result _ _ (λ e h. subst (λ (rows : List Row). ListingFails q (joined_rows q (rows_of build) rows) e) same (h (probe_morsels q c.args.probe.now) c.in_ok-listing-2.ensures.listed)) c.take_unmatched.ensures.fails

pub returns-clause-tables : goal.returns-clause-tables
returns-clause-tables g c =
    let q = c.args.query.now in
    let build = c.args.build.now in
    let built = c.take_probe.new.built in
    let same = probe_morsels_are q c.args.probe.now (good_morsel q.plan c.requires.can.can_list.can_join.plan) in
    let answered : built.tables ≡ answer_tables q build c.args.probe.now = tables_answered q build c.args.probe.now built (subst (λ (rows : List Row). HasProbed q build rows built) same c.in_ok-listing-2.ensures.listed.tables) in
    search rules
