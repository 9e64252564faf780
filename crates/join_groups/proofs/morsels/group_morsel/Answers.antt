use Rattle.std.proofs.Common.{rules, ◌%◌, List, length, mod-lt, subst}
use Rattle.std.proofs.lemmas.Result.{on_ok_weaker}
use Rattle.std.specs.Result.{OnOk}
use Rattle.list_laws.specs.Places.{ChangedAt}
use Rattle.join_laws.specs.Locals.{entries_from}
use Rattle.any_reduce.specs.Kinds.{any_holds, any_shape}
use Rattle.group_locals.specs.Rows.{KeyedRow}
use Rattle.group_locals.specs.Locals.{LocalTakes}
use Rattle.join_groups.specs.Keyed.{grouping_of_query}
use Rattle.join_groups.proofs.MorselRows.{keyed_same, rows_fit, stays_at}
use Rattle.join_groups.proofs.morsels.group_morsel.Goals as goal

pub returns-in_err-keys-clause-changed : goal.returns-in_err-keys-clause-changed
returns-in_err-keys-clause-changed g c = stays_at _ (λ l. search rules) (c.args.morsel_no % length c.args.locals.now) c.args.locals.now (mod-lt c.args.morsel_no c.requires.some)

pub returns-in_err-columns-clause-changed : goal.returns-in_err-columns-clause-changed
returns-in_err-columns-clause-changed g c = stays_at _ (λ l. search rules) (c.args.morsel_no % length c.args.locals.now) c.args.locals.now (mod-lt c.args.morsel_no c.requires.some)

pub group_morsel-requires-clause-fit : goal.group_morsel-requires-clause-fit
group_morsel-requires-clause-fit g c =
    let q = c.args.query.now in
    (grouping_of_query q, c.requires.fit, rows_fit q c.args.rows.now.rows c.in_ok-keys.keys c.deref.result.now c.in_ok-columns.columns.items c.deref.ensures.value c.in_ok-keys.ensures.keys c.in_ok-columns.ensures.values c.in_ok-keys.ensures.state c.in_ok-keys.ensures.spelled c.in_ok-columns.ensures.types)

pub returns-clause-changed : goal.returns-clause-changed
returns-clause-changed g c =
    let q = c.args.query.now in
    let same = keyed_same q c.args.rows.now.rows c.in_ok-keys.keys c.deref.result.now c.in_ok-columns.columns.items c.deref.ensures.value c.in_ok-keys.ensures.keys c.in_ok-columns.ensures.values in
    subst (λ (rows : List KeyedRow). ChangedAt (λ l m. OnOk c.group_morsel.result (LocalTakes any_shape any_holds (entries_from c.args.morsel_no c.args.first_row rows) l m)) (c.args.morsel_no % length c.args.locals.now) c.args.locals.now c.group_morsel.new.locals) same c.group_morsel.ensures.changed

pub returns-clause-fit : goal.returns-clause-fit
returns-clause-fit g c = on_ok_weaker c.group_morsel.result (λ h. h (grouping_of_query c.args.query.now) c.requires.fit) c.group_morsel.ensures.fit
