use Rattle.std.proofs.Common.{◌≡◌, ◌+◌, List, ◌++◌, length, take, drop, sym, ap, ◌∙◌, subst, arith}
use Rattle.std.proofs.lemmas.List.{length-append}
use Rattle.std.proofs.lemmas.Result.{err_from_is_err_and}
use Rattle.col_core.specs.Tables.{Row}
use Rattle.join_laws.specs.Locals.{rows_of_morsels}
use Rattle.join_model.specs.Joined.{rows_of}
use Rattle.join_probes.proofs.Plans.{few_rows}
use Rattle.join_engine.specs.Listed.{probe_morsels, HasListed}
use Rattle.join_engine.proofs.Fronts.{frame_few, frames_left, frames_more, morsels_more, morsels_rows}
use Rattle.join_engine.proofs.Listed.{fails_with_more, good_morsel}
use Rattle.join_engine.proofs.probe.take_probe.Goals as goal

pub take_frame-requires-clause-few : goal.take_frame-requires-clause-few
take_frame-requires-clause-few g c = frame_few c.args.probe.now c.loop-frame.frame-index c.frame-item.result c.frame-item.is c.loop-frame-test.true c.requires.few

pub take_frame-requires-clause-number : goal.take_frame-requires-clause-number
take_frame-requires-clause-number g c =
    let probe = c.args.probe.now in
    let i = c.loop-frame.frame-index in
    omega (arith, c.loop-frame.invariant.morsels, c.requires.none.rows.morsels, few_rows probe c.requires.few, ap length (frames_left probe (i + 1)), length-append (rows_of (take (i + 1) probe)) (rows_of (drop (i + 1) probe)), ap length (frames_more probe i c.frame-item.result c.frame-item.is c.loop-frame-test.true), length-append (rows_of (take i probe)) c.frame-item.result.rows)

-- too many rows of the frames so far are too many in all
pub returns-in_err-listing-clause-fails : goal.returns-in_err-listing-clause-fails
returns-in_err-listing-clause-fails g c =
    let q = c.args.query.now in
    let probe = c.args.probe.now in
    let i = c.loop-frame.frame-index in
    let rows = c.frame-item.result.rows in
    let left = rows_of (drop (i + 1) probe) in
    let front = probe_morsels q (take i probe) in
    let same : rows_of_morsels front ≡ rows_of (take i probe) = morsels_rows q (take i probe) (good_morsel q.plan c.requires.can.can_join.plan) in
    let p = err_from_is_err_and c.from_residual.result c.from_residual.ensures.1 in
    rw (p.1, p.2) (fails_with_more q c.args.build.now (rows_of_morsels front ++ rows) left (rows_of probe) _
    (frames_left probe (i + 1) ∙ ap (λ (rs : List Row). rs ++ left) (frames_more probe i c.frame-item.result c.frame-item.is c.loop-frame-test.true ∙ ap (λ (rs : List Row). rs ++ rows) (sym same)))
    (c.in_err-listing.ensures.fails front c.loop-frame.invariant.listed))

-- one frame more
pub loop-frame-preserved : goal.loop-frame-preserved
loop-frame-preserved g c =
    let q = c.args.query.now in
    let probe = c.args.probe.now in
    let i = c.loop-frame.frame-index in
    let t = c.frame-item.result in
    let long = ap length (frames_more probe i t c.frame-item.is c.loop-frame-test.true) in
    record {
      listed = subst (λ (ms : List (List Row)). HasListed q c.args.build.now ms c.take_frame.new.built c.in_ok-listing.listing) (sym (morsels_more q probe i t c.frame-item.is c.loop-frame-test.true)) (c.in_ok-listing.ensures.listed (probe_morsels q (take i probe)) c.loop-frame.invariant.listed);
      morsels = omega (arith, c.loop-frame.invariant.morsels, c.in_ok-listing.ensures.morsels, long, length-append (rows_of (take i probe)) t.rows);
      cost = omega (arith, c.loop-frame.invariant.cost, c.in_ok-listing.ensures.cost, long, length-append (rows_of (take i probe)) t.rows);
    }
