use Rattle.std.proofs.Common.{List, [], refl, ap, ◌∙◌}
use Rattle.col_core.specs.declared.schema.Field.{Field}
use Rattle.col_core.specs.Tables.{Table}
use Rattle.join_engine.specs.declared.listing.Listing.{Listing}
use Rattle.join_engine.proofs.Listed.{no_listing}
use Rattle.join_engine.proofs.listing.no_rows.Goals as goal

pub returns : goal.returns
returns c =
    let table : List Field → Table = λ schema. record { schema = schema; rows = [] } in
    let listing : Listing = record { listed = 0; kept = c.in_ok-kept.kept; morsels = 0; locals = c.in_ok-new_locals.field-0 } in
    no_listing c.args.query.now listing (c.in_ok-kept.ensures ∙ ap table c.in_ok-joined_schema.ensures) refl refl c.in_ok-new_locals.ensures.count c.in_ok-new_locals.ensures.fit c.in_ok-new_locals.ensures.new
