use Rattle.std.proofs.Common.{◌%◌, ℕ, [], map, flat_map, length, unwrap_or, sym, subst, mod-lt, arith}
use Rattle.std.proofs.lemmas.List.{length-map}
use Rattle.hash_keys.specs.Views.{keys_of}
use Rattle.key_groups.specs.Groups.{bytes_of}
use Rattle.list_laws.proofs.Places.{changed_at_set}
use Rattle.join_laws.specs.Locals.{entries_from}
use Rattle.group_locals.specs.Rows.{keyed_rows}
use Rattle.group_locals.specs.Locals.{AreFresh, LocalTakes, kept}
use Rattle.group_locals.proofs.Calls.{on_ok}
use Rattle.group_locals.proofs.MorselFits.{few_keys, fit_after}
use Rattle.group_locals.proofs.morsels.group_morsel.Goals as goal

pub take_rows-requires-clause-few : goal.take_rows-requires-clause-few
take_rows-requires-clause-few g c =
    let ks = bytes_of (keys_of c.args.keys) in
    let long = length-map (keys_of c.args.keys) (λ k. unwrap_or k []) in
    let fresh = subst (λ (n : ℕ). AreFresh c.args.first_row n (flat_map kept c.args.locals.now)) (sym long) c.requires.fresh in
    few_keys g.R.Stated.shape c.requires.fit.0 c.args.locals.now c.args.first_row ks [] c.requires.fit.1 (omega (arith, c.requires.rows)) fresh (c.args.morsel_no % length c.args.locals.now) c.index-locals-place.result (mod-lt c.args.morsel_no c.requires.some)

pub returns-clause-changed : goal.returns-clause-changed
returns-clause-changed g c = changed_at_set _ (c.args.morsel_no % length c.args.locals.now) c.args.locals.now c.index-locals-place.result c.take_rows.new.self (mod-lt c.args.morsel_no c.requires.some) c.take_rows.ensures.ok

pub returns-clause-fit : goal.returns-clause-fit
returns-clause-fit g c = on_ok c.take_rows.result _ _ c.take_rows.ensures.ok (λ takes of fits.
    let ks = bytes_of (keys_of c.args.keys) in
    let columns = map (λ v. v.now.values) c.args.values.now in
    let place = c.args.morsel_no % length c.args.locals.now in
    let long = length-map (keys_of c.args.keys) (λ k. unwrap_or k []) in
    let fresh = subst (λ (n : ℕ). AreFresh c.args.first_row n (flat_map kept c.args.locals.now)) (sym long) c.requires.fresh in
    fit_after g.R.Stated.shape of c.args.locals.now c.args.first_row ks columns fits (omega (arith, c.requires.rows)) fresh g.R.Stated.holds c.args.morsel_no place _
    (changed_at_set (LocalTakes g.R.Stated.shape g.R.Stated.holds (entries_from c.args.morsel_no c.args.first_row (keyed_rows ks columns))) place c.args.locals.now c.index-locals-place.result c.take_rows.new.self (mod-lt c.args.morsel_no c.requires.some) takes))
