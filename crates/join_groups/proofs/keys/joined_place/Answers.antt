use Rattle.std.proofs.Common.{◌≡◌, true, is_some, subst}
use Rattle.col_core.specs.Schemas.{type_named}
use Rattle.join_query.specs.declared.query.Side.{Side}
use Rattle.join_model.specs.ColumnRefs.{schema_of}
use Rattle.join_pairs.proofs.Named.{position_is_some}
use Rattle.join_groups.proofs.keys.joined_place.Goals as goal

pub unwrap-requires : goal.unwrap-requires
unwrap-requires c =
    let column = c.args.column.now in
    rw (c.position.ensures, c.as_str-name.ensures) (position_is_some column.name c.args.query.now.probe_schema (subst (λ (s : Side). is_some (type_named column.name (schema_of c.args.query.now s)) ≡ true) c.in-Probe.is c.requires.known))

pub unwrap-requires-in-Build : goal.unwrap-requires-in-Build
unwrap-requires-in-Build c =
    let column = c.args.column.now in
    rw (c.position-in-Build.ensures, c.as_str-name.ensures) (position_is_some column.name c.args.query.now.build_schema (subst (λ (s : Side). is_some (type_named column.name (schema_of c.args.query.now s)) ≡ true) c.in-Build.is c.requires.known))
