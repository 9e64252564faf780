use Rattle.std.proofs.Common.{◌≡◌, ◌+◌, ◌<◌, ◌≤◌, IfOk, List, [], ◌∷◌, ◌++◌, length, sym, ap, ◌∙◌, subst, arith}
use Rattle.std.proofs.lemmas.List.{append-nil, nil_from_length}
use Rattle.std.proofs.lemmas.Result.{IfOk-weaker}
use Rattle.list_laws.specs.Runs.{runs}
use Rattle.col_core.specs.Tables.{Row}
use Rattle.join_engine.specs.Listed.{HasListed, ListsMore}
use Rattle.join_engine.specs.declared.listing.Listing.{Listing}
use Rattle.join_engine.proofs.Cuts.{one_run}
use Rattle.join_engine.proofs.probe.take_frame.Goals as goal

-- a frame without rows has no morsel
pub returns-then-height-eq0-clause-listed : goal.returns-then-height-eq0-clause-listed
returns-then-height-eq0-clause-listed g c = λ ms h.
    let q = c.args.query.now in
    let rows = c.args.frame.now.rows in
    let none = nil_from_length rows (omega (arith, c.height-height.ensures.height, c.if-height-eq0.true)) in
    subst (λ (more : List (List Row)). HasListed q c.args.build.now more c.args.built.now c.args.listing)
    (sym (ap (λ (rs : List Row). ms ++ runs q.plan.morsel rs) none ∙ append-nil ms)) h

-- one that is no more than a morsel is one
pub returns-then-height-query-clause-listed : goal.returns-then-height-query-clause-listed
returns-then-height-query-clause-listed g c =
    let q = c.args.query.now in
    let build = c.args.build.now in
    let rows = c.args.frame.now.rows in
    let one = one_run q.plan.morsel rows (omega (arith, c.height-height.ensures.height, c.if-height-eq0.false)) (omega (arith, c.height-height.ensures.height, c.if-height-query.true)) in
    subst (λ (more : List (List Row)). IfOk c.take_morsel.result (ListsMore q build more c.args.built.now c.args.listing c.take_morsel.new.built)) (sym one) c.take_morsel.ensures.listed
