use Rattle.std.proofs.Common.{◌∙◌}
use Rattle.std.proofs.lemmas.Result.{IfOk-weaker}
use Rattle.join_groups.proofs.MorselRows.{keys_placed, places_inside, rows_placed}
use Rattle.join_groups.proofs.keys.group_keys.Goals as goal

pub from_columns-requires-clause-in_bounds : goal.from_columns-requires-clause-in_bounds
from_columns-requires-clause-in_bounds c = places_inside c.args.query.now c.args.rows.now c.deref.result.now c.in_ok-places.places.items c.deref.ensures.value c.requires.joined c.in_ok-places.ensures

pub returns-clause-keys : goal.returns-clause-keys
returns-clause-keys c = IfOk-weaker c.from_columns.result _ _ (λ k h. h ∙ keys_placed c.args.query.now c.args.rows.now c.deref.result.now c.in_ok-places.places.items c.deref.ensures.value c.requires.joined c.in_ok-places.ensures) c.from_columns.ensures.keys

pub returns-clause-spelled : goal.returns-clause-spelled
returns-clause-spelled c = IfOk-weaker c.from_columns.result _ _ (λ k h. rows_placed c.args.query.now c.args.rows.now c.deref.result.now c.in_ok-places.places.items c.deref.ensures.value c.requires.joined c.in_ok-places.ensures h) c.from_columns.ensures.rows
