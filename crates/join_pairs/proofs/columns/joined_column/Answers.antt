use Rattle.std.proofs.Common.{◌≡◌, slice_get, Some, true, is_some, subst, List, ℕ, sym, ap, ◌∙◌}
use Rattle.col_core.specs.declared.schema.Field.{Field}
use Rattle.col_core.specs.Schemas.{type_named, field_position}
use Rattle.col_core.specs.Tables.{header}
use Rattle.join_query.specs.declared.query.Side.{Side}
use Rattle.join_model.specs.Answers.{joined_schema}
use Rattle.join_model.specs.ColumnRefs.{schema_of}
use Rattle.join_pairs.proofs.Named.{position_is_some, probe_type, build_type}
use Rattle.join_pairs.proofs.columns.joined_column.Goals as goal
use Rattle.join_pairs.proofs.columns.joined_column.Goals.{in-Probe, in-Build}

pub unwrap-place-requires : goal.unwrap-place-requires
unwrap-place-requires c =
    let column = c.args.column.now in
    rw (c.position.ensures, c.as_str-name.ensures) (position_is_some column.name c.args.query.now.probe_schema (subst (λ (s : Side). is_some (type_named column.name (schema_of c.args.query.now s)) ≡ true) c.in-Probe.is c.requires.known))

pub unwrap-requires : goal.unwrap-requires
unwrap-requires c =
    let column = c.args.column.now in
    rw (c.position-in-Build.ensures, c.as_str-name.ensures) (position_is_some column.name c.args.query.now.build_schema (subst (λ (s : Side). is_some (type_named column.name (schema_of c.args.query.now s)) ≡ true) c.in-Build.is c.requires.known))

-- the column at the place has the type that the side's schema gives it
pub returns-clause-dtype : goal.returns-clause-dtype
returns-clause-dtype c =
    let q = c.args.query.now in
    let column = c.args.column.now in
    let joined : slice_get (joined_schema q) c.match-column.place ≡ Some (header c.column.result.now) = subst (λ (s : List Field). slice_get s c.match-column.place ≡ Some (header c.column.result.now)) c.requires.joined c.column.ensures.header in
    elim c.match-column.branch [
      | in-Probe w ↦ probe_type q column w.unwrap-place.result c.column.result.now w.in-Probe.is
          (sym (ap (λ (name : List ℕ). field_position name q.probe_schema) c.as_str-name.ensures) ∙ sym w.position.ensures ∙ w.unwrap-place.ensures)
          (rw (← w.place-is) joined)
      | in-Build w ↦ build_type q column w.unwrap.result c.column.result.now w.in-Build.is
          (sym (ap (λ (name : List ℕ). field_position name q.build_schema) c.as_str-name.ensures) ∙ sym w.position-in-Build.ensures ∙ w.unwrap.ensures)
          (rw (← w.len.ensures, ← w.place-is) joined)
    ]
