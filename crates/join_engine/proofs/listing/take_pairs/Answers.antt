use Rattle.std.proofs.Common.{◌≡◌, ℕ, ◌+◌, ◌≤◌, ◌<◌, ◌%◌, List, [], ◌∷◌, ◌++◌, map, filter, flat_map, length, refl, sym, ap, ◌∙◌, subst, arith}
use Rattle.std.proofs.lemmas.List.{length-map}
use Rattle.list_laws.specs.Places.{ChangedAt}
use Rattle.list_laws.proofs.Lists.{slice_back}
use Rattle.col_core.specs.Tables.{Row, Table}
use Rattle.any_reduce.specs.Kinds.{any_shape, any_holds}
use Rattle.any_reduce.specs.declared.any.AnyReduction.{AnyReduction}
use Rattle.group_locals.specs.declared.local.LocalState.{LocalState}
use Rattle.group_locals.specs.Locals.{AreFresh, LocalTakes, LocalsFit, kept}
use Rattle.join_laws.specs.Locals.{entries_from}
use Rattle.join_model.specs.Filtered.{passes}
use Rattle.join_probes.specs.Probed.{pair_row}
use Rattle.join_groups.specs.Keyed.{grouping_of_query, keyed_row}
use Rattle.join_engine.proofs.Listed.{few_kept, fresh_rows, more_listed, some_locals}
use Rattle.join_engine.proofs.Mapped.{changed_well, went_well}
use Rattle.join_engine.proofs.listing.take_pairs.Goals as goal

pub group_morsel-requires-clause-some : goal.group_morsel-requires-clause-some
group_morsel-requires-clause-some g c =
    omega (arith, some_locals c.args.query.now c.requires.listed.0 c.args.listing c.requires.listed.1 c.requires.can.can_join.plan, ap length c.deref_mut.ensures.value)

pub group_morsel-requires-clause-fit : goal.group_morsel-requires-clause-fit
group_morsel-requires-clause-fit g c = subst (LocalsFit any_shape (grouping_of_query c.args.query.now)) (sym c.deref_mut.ensures.value) c.requires.listed.1.taken.fit

pub overflow_cast-first_row : goal.overflow_cast-first_row
overflow_cast-first_row g c =
    let q = c.args.query.now in
    let long = ap (λ (t : Table). length t.rows) c.in_ok-joined.ensures ∙ length-map c.args.pairs.now (pair_row q c.args.morsel.now c.args.build.now) in
    record { fits = omega (arith, c.height-first_row.ensures, few_kept q c.requires.listed.0 c.args.listing c.requires.listed.1 c.in_ok-joined.joined.rows c.in_ok-passing.passing.rows c.in_ok-passing.ensures.rows (omega (arith, long, c.requires.few)) c.requires.can.can_join.plan) }

pub group_morsel-requires-clause-rows : goal.group_morsel-requires-clause-rows
group_morsel-requires-clause-rows g c =
    let q = c.args.query.now in
    let joined = c.in_ok-joined.joined.rows in
    let long = ap (λ (t : Table). length t.rows) c.in_ok-joined.ensures ∙ length-map c.args.pairs.now (pair_row q c.args.morsel.now c.args.build.now) in
    omega (arith, few_kept q c.requires.listed.0 c.args.listing c.requires.listed.1 joined c.in_ok-passing.passing.rows c.in_ok-passing.ensures.rows (omega (arith, long, c.requires.few)) c.requires.can.can_join.plan)

pub group_morsel-requires-clause-fresh : goal.group_morsel-requires-clause-fresh
group_morsel-requires-clause-fresh g c =
    let passing = c.in_ok-passing.passing.rows in
    subst (λ (n : ℕ). AreFresh n (length passing) (flat_map kept c.deref_mut.result.now)) (sym c.height-first_row.ensures)
    (fresh_rows c.args.query.now c.requires.listed.0 c.args.listing c.requires.listed.1 passing c.deref_mut.result.now c.deref_mut.ensures.value)

pub append-requires-clause-few : goal.append-requires-clause-few
append-requires-clause-few g c =
    let q = c.args.query.now in
    let joined = c.in_ok-joined.joined.rows in
    let long = ap (λ (t : Table). length t.rows) c.in_ok-joined.ensures ∙ length-map c.args.pairs.now (pair_row q c.args.morsel.now c.args.build.now) in
    omega (arith, few_kept q c.requires.listed.0 c.args.listing c.requires.listed.1 joined c.in_ok-passing.passing.rows c.in_ok-passing.ensures.rows (omega (arith, long, c.requires.few)) c.requires.can.can_join.plan)

-- the rows of the pairs are listed
pub returns-clause-listed : goal.returns-clause-listed
returns-clause-listed g c = λ ms h.
    let q = c.args.query.now in
    let joined = c.in_ok-joined.joined.rows in
    let passing = c.in_ok-passing.passing.rows in
    let rows = map (pair_row q c.args.morsel.now c.args.build.now) c.args.pairs.now in
    let are = ap (λ (t : Table). t.rows) c.in_ok-joined.ensures in
    let olds = c.deref_mut.result.now in
    let news = c.group_morsel.new.locals in
    let was = c.in_ok-group_morsel.was in
    let back = slice_back c.args.listing.locals.len news c.args.listing.locals.items (c.group_morsel.auto.locals ∙ c.deref_mut.ensures.len) in
    let entered : ℕ → List (LocalState AnyReduction) → List (LocalState AnyReduction) → Type 0 = λ n ls ms. ChangedAt (LocalTakes any_shape any_holds (entries_from c.args.listing.morsels n (map (keyed_row q) passing))) (c.args.listing.morsels % length ls) ls ms in
    let changed : entered c.height-first_row.result olds news =
    changed_well (LocalTakes any_shape any_holds (entries_from c.args.listing.morsels c.height-first_row.result (map (keyed_row q) passing))) (c.args.listing.morsels % length olds) olds news c.group_morsel.result c.in_ok-group_morsel.field-0 was c.group_morsel.ensures.changed in
    more_listed q ms c.args.listing h rows passing (c.in_ok-passing.ensures.rows ∙ ap (filter (passes q)) are) olds c.deref_mut.ensures.value news _
    c.in_ok-append.ensures
    (omega (arith, length-map c.args.pairs.now (pair_row q c.args.morsel.now c.args.build.now)))
    refl
    back
    (omega (arith, c.requires.few, length-map c.args.pairs.now (pair_row q c.args.morsel.now c.args.build.now)))
    (subst (λ (n : ℕ). entered n olds news) c.height-first_row.ensures changed)
    (went_well c.group_morsel.result c.in_ok-group_morsel.field-0 was c.group_morsel.ensures.fit)
    (went_well c.group_morsel.result c.in_ok-group_morsel.field-0 was c.group_morsel.ensures.spelled)
