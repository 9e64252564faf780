use Rattle.std.proofs.Common.{◌≡◌, ◌∙◌, [], true, get_or, ap, sym}
use Rattle.col_core.specs.Values.{value_at, is_null}
use Rattle.hash_keys.proofs.Spelled.{null_found, value_in_row}
use Rattle.hash_keys.proofs.rows.has_null.Goals as goal

pub returns-then-is_null : goal.returns-then-is_null
returns-then-is_null c =
    let rows = c.args.df.now.rows in
    let places = c.args.places.now in
    let i = c.loop-place.place-index in
    let value = c.leaf_ref.ensures.value ∙ value_in_row rows c.column.result.now.values (get_or places i 0) c.args.row c.column.ensures.values c.requires.row in
    let null : is_null (value_at (get_or rows c.args.row []) (get_or places i 0)) ≡ true = ap is_null (sym value) ∙ sym c.is_null.ensures ∙ c.if-is_null.true in
    sym (null_found (get_or rows c.args.row []) places i 0 c.loop-place-test.true null)
