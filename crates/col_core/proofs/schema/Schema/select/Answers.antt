use Rattle.std.proofs.Common.{◌≡◌, ◌++◌, [], ◌∷◌, get_or, rules}
use Rattle.col_core.specs.Tables.{field_at}
use Rattle.col_core.proofs.Rows.{field_found, mapped_more}
use Rattle.col_core.proofs.schema.Schema.select.Goals as goal

pub loop-place-preserved : goal.loop-place-preserved
loop-place-preserved c =
    let places = c.args.places.now in
    let i = c.loop-place.place-index in
    let field = c.field-field.result.now in
    let pushed : c.push.new.self.items ≡ c.loop-place.fields.items ++ field ∷ [] = search rules in
    mapped_more (field_at c.args.self.now) places i 0 c.loop-place.fields.items c.push.new.self.items field c.loop-place-test.true c.loop-place.invariant pushed (field_found c.args.self.now (get_or places i 0) field c.field-field.ensures)
