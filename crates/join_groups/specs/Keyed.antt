-- Joined rows as local states take them: the bytes of a group key, and a value for each reduction.
use Rattle.std.specs.Prelude.{◌≡◌, ℕ, true, List, map, is_some}
use Rattle.col_core.specs.declared.schema.Field.{Field}
use Rattle.col_core.specs.Schemas.{type_named}
use Rattle.col_core.specs.Tables.{Row}
use Rattle.key_parts.specs.declared.hash.PlRandomState.{PlRandomState}
use Rattle.row_code.specs.Spelling.{IsRowOf, row_spelling}
use Rattle.reduce_states.specs.Reductions.{Shape}
use Rattle.any_reduce.specs.Kinds.{new_shape}
use Rattle.join_query.specs.declared.query.Query.{Query}
use Rattle.join_query.specs.declared.query.ColumnRef.{ColumnRef}
use Rattle.join_query.specs.declared.query.Reduction.{Reduction}
use Rattle.join_model.specs.ColumnRefs.{ref_type, ref_value, schema_of}
use Rattle.join_model.specs.Groups.{group_key}
use Rattle.join_model.specs.Answers.{key_field}
use Rattle.group_locals.specs.Rows.{KeyedRow}
use Rattle.group_locals.specs.Locals.{Grouping}

-- the fields of a group key
abbrev pub group_fields : Query → List Field
group_fields q = map (key_field q) q.group_keys

-- the bytes of a row's group key
abbrev pub group_bytes : Query → Row → List ℕ
group_bytes q row = row_spelling (group_fields q) (group_key q row)

-- a row's group key fits its fields, and its texts and bytes have lengths that eight bytes hold
abbrev pub HasGroup : Query → Row → Type 0
HasGroup q row = IsRowOf (group_fields q) (group_key q row)

-- what a row gives to each reduction
abbrev pub reduced_values : Query → Row → Row
reduced_values q row = map (λ r. ref_value q r.column row) q.reductions

abbrev pub keyed_row : Query → Row → KeyedRow
keyed_row q row = record { key = group_bytes q row; values = reduced_values q row }

-- the state that group keys are hashed under
abbrev pub plan_state : Query → PlRandomState
plan_state q = record { seed = q.plan.seed; mask = q.plan.mask }

-- the shape of a reduction without groups
abbrev pub shape_of : Query → Reduction → Shape
shape_of q r = new_shape r.kind (ref_type q r.column)

-- what the local states of a query group for
abbrev pub grouping_of_query : Query → Grouping
grouping_of_query q = record { schema = group_fields q; state = plan_state q; shapes = map (shape_of q) q.reductions }

-- the side of a column has it
abbrev pub IsKnown : Query → ColumnRef → Type 0
IsKnown q ref = is_some (type_named ref.name (schema_of q ref.side)) ≡ true
