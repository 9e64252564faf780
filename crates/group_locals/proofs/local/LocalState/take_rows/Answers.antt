use Rattle.std.proofs.Common.{ℕ, List, [], length, unwrap_or, sym, subst, ◌∙◌, arith}
use Rattle.std.specs.List.{All}
use Rattle.std.proofs.lemmas.List.{length-map}
use Rattle.col_core.specs.declared.schema.Field.{Field}
use Rattle.row_code.specs.Spelling.{IsSpelling}
use Rattle.hash_keys.specs.Views.{keys_of}
use Rattle.key_groups.specs.Groups.{bytes_of}
use Rattle.group_locals.proofs.Calls.{on_ok}
use Rattle.group_locals.proofs.Fits.{inside_of, length-came, more_came}
use Rattle.group_locals.proofs.Takes.{lent_heights, lent_types, local_takes_from}
use Rattle.group_locals.proofs.local.LocalState.take_rows.Goals as goal

pub insert_keys-requires-clause-spelled : goal.insert_keys-requires-clause-spelled
insert_keys-requires-clause-spelled g c = subst (λ (schema : List Field). All (IsSpelling schema) (bytes_of (keys_of c.args.keys))) (sym c.requires.fits.1.is_of.schema_is) c.requires.fits.2.spelled

pub note_rows-requires-clause-more : goal.note_rows-requires-clause-more
note_rows-requires-clause-more g c =
    let m = more_came (bytes_of (keys_of c.args.keys)) c.args.self.now.grouper.keys c.insert_keys.new.self.keys c.insert_keys.new.group_idxs.items c.num_groups-groups.result c.in_ok-insert_keys.ensures.ok c.num_groups-groups.ensures.count in
    omega (arith, c.requires.fits.1.long)

pub note_rows-requires-clause-places : goal.note_rows-requires-clause-places
note_rows-requires-clause-places g c = inside_of (bytes_of (keys_of c.args.keys)) c.args.self.now.grouper.keys c.insert_keys.new.self.keys c.insert_keys.new.group_idxs.items c.deref.result.now c.num_groups-groups.result c.in_ok-insert_keys.ensures.ok c.deref.ensures.value c.num_groups-groups.ensures.count

pub enter_columns-requires-clause-types : goal.enter_columns-requires-clause-types
enter_columns-requires-clause-types g c = lent_types g.R.Stated.shape c.requires.fits.0 c.args.keys c.args.values.now (length c.args.self.now.grouper.keys) c.args.self.now.reductions c.requires.fits.2 c.requires.fits.1.is_of.shapes_are

pub enter_columns-requires-clause-heights : goal.enter_columns-requires-clause-heights
enter_columns-requires-clause-heights g c =
    let long = length-came (bytes_of (keys_of c.args.keys)) c.args.self.now.grouper.keys c.insert_keys.new.self.keys c.insert_keys.new.group_idxs.items c.deref-2.result.now c.in_ok-insert_keys.ensures.ok c.deref-2.ensures.value in
    lent_heights c.requires.fits.0 c.args.keys c.args.values.now (length c.deref-2.result.now) c.requires.fits.2 (long ∙ length-map (keys_of c.args.keys) (λ k. unwrap_or k []))

pub enter_columns-requires-clause-places : goal.enter_columns-requires-clause-places
enter_columns-requires-clause-places g c = inside_of (bytes_of (keys_of c.args.keys)) c.args.self.now.grouper.keys c.insert_keys.new.self.keys c.insert_keys.new.group_idxs.items c.deref-2.result.now c.num_groups-groups.result c.in_ok-insert_keys.ensures.ok c.deref-2.ensures.value c.num_groups-groups.ensures.count

pub returns-clause-ok : goal.returns-clause-ok
returns-clause-ok g c = on_ok c.enter_columns.result _ _ c.enter_columns.ensures (λ columns.
    local_takes_from g.R.Stated.shape g.R.Stated.holds g.met.R.GroupedReduction.long g.met.R.GroupedReduction.states c.requires.fits.0 c.args.keys c.args.values.now c.args.morsel_no c.args.first_row c.args.self.now (record { grouper = c.insert_keys.new.self; reductions = c.enter_columns.new.reductions; first_rows = c.note_rows.new.first_rows })
    c.insert_keys.new.group_idxs.items c.deref.result.now c.deref-2.result.now c.num_groups-groups.result c.requires.fits.1 c.requires.fits.2 c.deref.ensures.value c.deref-2.ensures.value c.num_groups-groups.ensures.count c.in_ok-insert_keys.ensures.schema c.in_ok-insert_keys.ensures.state c.in_ok-insert_keys.ensures.ok c.in_ok-note_rows.ensures columns)
