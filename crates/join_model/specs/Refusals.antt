-- The first cause for which a query and its frames are refused.
use Rattle.std.specs.Prelude.{ℕ, ◌%◌, ◌==◌, nat_lt, nat_le, Bool, true, false, ◌||◌, ◌&&◌, not, if◌then◌else◌, List, [], ◌∷◌, map, length, Option, Some, None, position}
use Rattle.std.specs.List.{list_any}
use Rattle.std.specs.Option.{option_map_or, option_map}
use Rattle.std.specs.Str.{bytes_eq}
use Rattle.std.specs.Cmp.Lexicographic.{pointwise}
use Rattle.list_laws.specs.Distinct.{has_repeat}
use Rattle.col_core.specs.declared.schema.Field.{Field}
use Rattle.col_core.specs.declared.data_type.DataType.{DataType}
use Rattle.col_core.specs.declared.data_type.DataType.TheVariants.{Int8, Int16, Int32, Int64, UInt8, UInt16, UInt32, UInt64}
use Rattle.col_core.specs.Tables.{Table}
use Rattle.col_core.specs.Schemas.{dtype_eq, schema_eq}
use Rattle.reduce_model.specs.Folds.{is_unsupported}
use Rattle.join_query.specs.declared.error.QueryError.{QueryError}
use Rattle.join_query.specs.declared.error.QueryError.TheVariants.{NoKeyColumns, UnknownColumn, SchemaMismatch, UnsupportedReduction, UnsupportedFilter, BadPlan, TooLarge}
use Rattle.join_query.specs.declared.query.Query.{Query}
use Rattle.join_query.specs.declared.query.Plan.{Plan}
use Rattle.join_query.specs.declared.query.IntLiteral.{IntLiteral}
use Rattle.join_query.specs.declared.query.IntLiteral.TheVariants as literals
use Rattle.join_query.specs.declared.query.Operand.{Operand}
use Rattle.join_query.specs.declared.query.Operand.TheVariants as operands
use Rattle.join_query.specs.declared.limits.TheConstants.{MAX_PARTITIONS, MAX_STATES, MAX_LIMIT, MAX_MORSEL, MAX_ROWS, SIDE_LIMIT}
use Rattle.join_model.specs.ColumnRefs.{type_under, ref_type, named_columns, is_unknown}
use Rattle.join_model.specs.Joined.{rows_of, joined_rows}

abbrev pub is_empty : {X : Type 0} → List X → Bool
is_empty [] = true
is_empty (x ∷ xs) = false

-- a join key list of either side, or the group key list, is empty
abbrev pub lacks_keys : Query → Bool
lacks_keys q = is_empty q.build_keys || is_empty q.probe_keys || is_empty q.group_keys

-- the least place of a column that its side lacks
abbrev pub unknown_column : Query → Option ℕ
unknown_column q = position (is_unknown q) (named_columns q)

-- two fields have one name
abbrev pub repeats_name : List Field → Bool
repeats_name schema = has_repeat (λ f g. bytes_eq f.name g.name) schema

abbrev pub has_other_frame : List Field → List Table → Bool
has_other_frame schema frames = list_any (λ frame. not (schema_eq frame.schema schema)) frames

-- the types of columns of a side, by their names; of one that it lacks, `Binary`
abbrev pub types_named : List Field → List (List ℕ) → List DataType
types_named schema names = map (type_under schema) names

abbrev pub literal_type : IntLiteral → DataType
literal_type (literals.I8 z) = Int8
literal_type (literals.I16 z) = Int16
literal_type (literals.I32 z) = Int32
literal_type (literals.I64 z) = Int64
literal_type (literals.U8 n) = UInt8
literal_type (literals.U16 n) = UInt16
literal_type (literals.U32 n) = UInt32
literal_type (literals.U64 n) = UInt64

abbrev pub operand_type : Query → Operand → DataType
operand_type q (operands.Column ref) = ref_type q ref
operand_type q (operands.Literal n) = literal_type n

-- two key lists are as long, and have the same types place by place
abbrev pub have_same_types : List Field → List (List ℕ) → List Field → List (List ℕ) → Bool
have_same_types build build_keys probe probe_keys = pointwise dtype_eq (types_named build build_keys) (types_named probe probe_keys)

-- a filter's operands differ in type
abbrev pub has_mixed_filter : Query → Bool
has_mixed_filter q = option_map_or (λ f. not (dtype_eq (ref_type q f.left) (operand_type q f.right))) q.filter false

-- a schema repeats a name, a frame is of another schema, the keys differ in number or in type, or the filter's operands in type
abbrev pub schemas_differ : Query → List Table → List Table → Bool
schemas_differ q build probe = repeats_name q.build_schema || repeats_name q.probe_schema
    || has_other_frame q.build_schema build || has_other_frame q.probe_schema probe
    || not (have_same_types q.build_schema q.build_keys q.probe_schema q.probe_keys)
    || has_mixed_filter q

-- the least place of a reduction that there is not
abbrev pub unsupported_reduction : Query → Option ℕ
unsupported_reduction q = position (λ r. is_unsupported r.kind (ref_type q r.column)) q.reductions

-- the eight integer types to 64 bits
abbrev pub is_integer : DataType → Bool
is_integer Int8 = true
is_integer Int16 = true
is_integer Int32 = true
is_integer Int64 = true
is_integer UInt8 = true
is_integer UInt16 = true
is_integer UInt32 = true
is_integer UInt64 = true
is_integer _ = false

abbrev pub filter_is_unsupported : Query → Bool
filter_is_unsupported q = option_map_or (λ f. not (is_integer (ref_type q f.left))) q.filter false

abbrev pub is_within : ℕ → ℕ → Bool
is_within n most = nat_lt 0 n && nat_le n most

-- each number of the plan is in its range, and the factor of the partitions is odd
abbrev pub is_good_plan : Plan → Bool
is_good_plan plan = is_within plan.partitions MAX_PARTITIONS && is_within plan.states MAX_STATES
    && is_within plan.limit MAX_LIMIT && is_within plan.morsel MAX_MORSEL
    && is_within plan.rows MAX_ROWS && (plan.pseed % 2 == 1)

-- a side has 2^31 or more frames or rows
abbrev pub is_too_large : List Table → Bool
is_too_large frames = nat_le SIDE_LIMIT (length frames) || nat_le SIDE_LIMIT (length (rows_of frames))

-- the joined list before the filter is longer than the plan allows
abbrev pub lists_too_many : Query → List Table → List Table → Bool
lists_too_many q build probe = nat_lt q.plan.rows (length (joined_rows q (rows_of build) (rows_of probe)))

abbrev pub when : Bool → QueryError → Option QueryError
when b cause = if b then Some cause else None

-- the first that there is
abbrev pub first_of : List (Option QueryError) → Option QueryError
first_of [] = None
first_of (None ∷ rest) = first_of rest
first_of (Some cause ∷ rest) = Some cause

-- the first cause that shows before any row is read, with its kept number
abbrev pub checked_refusal : Query → List Table → List Table → Option QueryError
checked_refusal q build probe = first_of (
    when (lacks_keys q) NoKeyColumns
    ∷ option_map UnknownColumn (unknown_column q)
    ∷ when (schemas_differ q build probe) SchemaMismatch
    ∷ option_map UnsupportedReduction (unsupported_reduction q)
    ∷ when (filter_is_unsupported q) UnsupportedFilter
    ∷ when (not (is_good_plan q.plan)) BadPlan
    ∷ when (is_too_large build || is_too_large probe) TooLarge
    ∷ [])

-- the first cause of all: the length of the joined list is the last
abbrev pub refusal_of : Query → List Table → List Table → Option QueryError
refusal_of q build probe = first_of (checked_refusal q build probe ∷ when (lists_too_many q build probe) TooLarge ∷ [])
