use Rattle.std.proofs.Common.{◌≡◌, ◌+◌, ◌<◌, ◌^◌, true, false, List, [], ◌∷◌, ◌++◌, map, length, sym, ap, ◌∙◌, subst, rules, arith}
use Rattle.std.specs.List.{All}
use Rattle.std.proofs.lemmas.List.{append-nil}
use Rattle.list_laws.specs.Runs.{runs}
use Rattle.col_core.specs.declared.row_place.RowPlace.{RowPlace}
use Rattle.col_core.specs.Places.{IsPlace}
use Rattle.col_core.specs.Tables.{Row}
use Rattle.join_laws.specs.Locals.{rows_of_morsels}
use Rattle.join_probes.specs.Probed.{is_joined}
use Rattle.join_engine.specs.Listed.{outer_row, rows_of_each, IsListing}
use Rattle.join_engine.proofs.Listed.{good_rows, none_outer, outer_fails, outer_told}
use Rattle.join_engine.proofs.outer.take_unmatched.Goals as goal

pub returns-then-not-query-clause-listed : goal.returns-then-not-query-clause-listed
returns-then-not-query-clause-listed g c = λ ms h.
    let q = c.args.query.now in
    let build = c.args.build.now in
    let keep : q.keep_build ≡ false = search rules in
    let joined = rows_of_each q build ms in
    subst (λ (rows : List (List Row)). IsListing q rows c.args.listing) (sym (ap (λ (rows : List Row). joined ++ runs q.plan.morsel rows) (none_outer q build (rows_of_morsels ms) keep) ∙ append-nil joined)) h.rows

pub returns-then-len-query-clause-fails : goal.returns-then-len-query-clause-fails
returns-then-len-query-clause-fails g c = λ ms h.
    let q = c.args.query.now in
    let build = c.args.build.now in
    let places = c.in_ok-places.places in
    let probed = rows_of_morsels ms in
    let keep : q.keep_build ≡ true = search rules in
    let are = outer_told q build probed places c.args.built.now c.requires.can.can_join h.tables keep (c.in_ok-places.ensures.rows build (is_joined q probed) h.tables.built c.requires.few) in
    outer_fails q build ms places c.args.listing h.rows are (search rules)

pub take_outer-requires-clause-places : goal.take_outer-requires-clause-places
take_outer-requires-clause-places g c =
    let h = c.requires.listed.1 in
    subst (All (IsPlace c.args.build.now)) (sym c.as_slice.ensures) (c.in_ok-places.ensures.inside c.args.build.now _ h.tables.built c.requires.few)

pub returns-clause-listed : goal.returns-clause-listed
returns-clause-listed g c = λ ms h.
    let q = c.args.query.now in
    let build = c.args.build.now in
    let places = c.in_ok-places.places in
    let probed = rows_of_morsels ms in
    let joined = rows_of_each q build ms in
    let keep : q.keep_build ≡ true = search rules in
    let are = outer_told q build probed places c.args.built.now c.requires.can.can_join h.tables keep (c.in_ok-places.ensures.rows build (is_joined q probed) h.tables.built c.requires.few) in
    subst (λ (rows : List (List Row)). IsListing q rows c.in_ok-take_outer.field-0) (ap (λ (ps : List RowPlace). joined ++ runs q.plan.morsel (map (outer_row q build) ps)) c.as_slice.ensures ∙ ap (λ (rows : List Row). joined ++ runs q.plan.morsel rows) (sym are)) (c.in_ok-take_outer.ensures.listed joined h.rows)
