use Rattle.std.proofs.Common.{◌≡◌, ◌+◌, ◌-◌, ◌<◌, ◌≤◌, ℕ, min, List, [], ◌∷◌, ◌++◌, length, drop, sym, ap, ◌∙◌, subst, arith}
use Rattle.std.proofs.lemmas.List.{append_assoc, length-drop}
use Rattle.std.proofs.lemmas.Result.{err_from_is_err_and}
use Rattle.col_core.specs.Tables.{Row, Table}
use Rattle.list_laws.specs.Runs.{runs}
use Rattle.join_laws.specs.Locals.{rows_of_morsels}
use Rattle.join_engine.specs.Listed.{HasListed}
use Rattle.join_engine.proofs.Cuts.{least_is, runs_cut, runs_done, runs_more, slice_front, slice_is_run, slice_long}
use Rattle.join_engine.proofs.Listed.{fails_with_more, good_morsel}
use Rattle.join_engine.proofs.MorselRows.{rows_left}
use Rattle.join_engine.proofs.probe.take_slices.Goals as goal

pub take_morsel-requires-clause-listed : goal.take_morsel-requires-clause-listed
take_morsel-requires-clause-listed g c =
    let ms = c.requires.listed.0 in
    (ms ++ c.loop-start.invariant.listed.0, c.loop-start.invariant.listed.2 ms c.requires.listed.1)

-- too many rows of the slices so far are too many in all
pub returns-in_err-listing-clause-fails : goal.returns-in_err-listing-clause-fails
returns-in_err-listing-clause-fails g c =
    let q = c.args.query.now in
    let rows = c.args.frame.now.rows in
    let morsel = c.in_ok-morsel.morsel.rows in
    let i = c.loop-start.start in
    let n = c.min-len.result in
    let done = c.loop-start.invariant.listed.0 in
    let left = drop (i + n) rows in
    let whole : rows ≡ rows_of_morsels done ++ (morsel ++ left) =
    runs_cut q.plan.morsel rows (drop i rows) done (good_morsel q.plan c.requires.can.can_join.plan) c.loop-start.invariant.listed.1
    ∙ ap (λ (rs : List Row). rows_of_morsels done ++ rs) (slice_front rows morsel q.plan.morsel i n (ap (λ (t : Table). t.rows) c.in_ok-morsel.ensures)) in
    let p = err_from_is_err_and c.from_residual-in_err-listing.result c.from_residual-in_err-listing.ensures.1 in
    rw (p.1, p.2) (λ ms h. fails_with_more q c.args.build.now (rows_of_morsels (ms ++ done) ++ morsel) left (rows_of_morsels ms ++ rows) _ (rows_left ms done morsel left rows whole)
    (c.in_err-listing.ensures.fails (ms ++ done) (c.loop-start.invariant.listed.2 ms h)))

-- one slice more
pub loop-start-preserved : goal.loop-start-preserved
loop-start-preserved g c =
    let q = c.args.query.now in
    let rows = c.args.frame.now.rows in
    let morsel = c.in_ok-morsel.morsel.rows in
    let i = c.loop-start.start in
    let n = c.min-len.result in
    let m = q.plan.morsel in
    let done = c.loop-start.invariant.listed.0 in
    let some = good_morsel q.plan c.requires.can.can_join.plan in
    let here : i < length rows = omega (arith, c.loop-start-test.true, c.height.ensures.height) in
    let len : n ≡ min m (length rows - i) = least_is n m (c.height-in-loop-start.result - i) c.min-len.ensures ∙ ap (λ (k : ℕ). min m (k - i)) c.height-in-loop-start.ensures.height in
    let inside : i + n ≤ length rows = omega (arith, len, here) in
    let is = ap (λ (t : Table). t.rows) c.in_ok-morsel.ensures in
    let long = slice_long rows morsel m i n is inside in
    let full = slice_is_run rows morsel m i n is here len in
    record {
      front = inside;
      listed = (
        done ++ morsel ∷ [],
        runs_more m rows morsel (drop (i + n) rows) done some (omega (arith, long, len, here, some)) full (c.loop-start.invariant.listed.1 ∙ ap (λ (rs : List Row). done ++ runs m rs) (slice_front rows morsel m i n is)),
        λ ms h. subst (λ (rs : List (List Row)). HasListed q c.args.build.now rs c.take_morsel.new.built c.in_ok-listing.listing) (append_assoc ms done (morsel ∷ [])) (c.in_ok-listing.ensures.listed (ms ++ done) (c.loop-start.invariant.listed.2 ms h)),
      );
      morsels = omega (arith, c.loop-start.invariant.morsels, c.in_ok-listing.ensures.morsels, len, here, some);
      cost = omega (arith, c.loop-start.invariant.cost, c.in_ok-listing.ensures.cost, long);
    }

-- and none is left
pub returns-clause-listed : goal.returns-clause-listed
returns-clause-listed g c = λ ms h.
    let q = c.args.query.now in
    let rows = c.args.frame.now.rows in
    let i = c.loop-start.start in
    let done = c.loop-start.invariant.listed.0 in
    let all = subst (λ (n : ℕ). n ≤ i) c.height.ensures.height c.loop-start-test.false in
    let cut = runs_done q.plan.morsel rows (drop i rows) done (omega (arith, all, length-drop i rows)) c.loop-start.invariant.listed.1 in
    subst (λ (rs : List (List Row)). HasListed q c.args.build.now (ms ++ rs) c.loop-start.built c.loop-start.listing) (sym cut) (c.loop-start.invariant.listed.2 ms h)
