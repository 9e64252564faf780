-- The columns that a query names: where they stand in a joined row, their values, types and names.
use Rattle.std.specs.Prelude.{ℕ, ◌+◌, Bool, List, [], ◌∷◌, ◌++◌, map, length, Option, is_none}
use Rattle.std.specs.Option.{option_map_or, option_map}
use Rattle.col_core.specs.declared.leaf.Leaf.{Leaf}
use Rattle.col_core.specs.declared.leaf.Leaf.TheVariants as leaves
use Rattle.col_core.specs.declared.schema.Field.{Field}
use Rattle.col_core.specs.declared.data_type.DataType.{DataType}
use Rattle.col_core.specs.declared.data_type.DataType.TheVariants.{Binary}
use Rattle.col_core.specs.Values.{value_at}
use Rattle.col_core.specs.Tables.{Row}
use Rattle.col_core.specs.Schemas.{field_position, type_named}
use Rattle.join_query.specs.declared.query.Query.{Query}
use Rattle.join_query.specs.declared.query.Side.{Side}
use Rattle.join_query.specs.declared.query.Side.TheVariants as sides
use Rattle.join_query.specs.declared.query.ColumnRef.{ColumnRef}
use Rattle.join_query.specs.declared.query.Operand.{Operand}
use Rattle.join_query.specs.declared.query.Operand.TheVariants as operands
use Rattle.join_query.specs.declared.query.Filter.{Filter}
use Rattle.join_query.specs.Names.{side_prefix}

-- the schema of a side
abbrev pub schema_of : Query → Side → List Field
schema_of q sides.Build = q.build_schema
schema_of q sides.Probe = q.probe_schema

-- the type of the first column of a name; of a schema without it, `Binary`
abbrev pub type_under : List Field → List ℕ → DataType
type_under schema name = option_map_or (λ t. t) (type_named name schema) Binary

-- the type of a column; of one that its side lacks, `Binary`
abbrev pub ref_type : Query → ColumnRef → DataType
ref_type q ref = type_under (schema_of q ref.side) ref.name

-- a column's name in the answer
abbrev pub ref_name : ColumnRef → List ℕ
ref_name ref = side_prefix ref.side ++ ref.name

-- where a side's columns begin in a joined row: the probe columns come first
abbrev pub first_place : Query → Side → ℕ
first_place q sides.Probe = 0
first_place q sides.Build = length q.probe_schema

-- where a column stands in a joined row, if its side has it
abbrev pub place_of : Query → ColumnRef → Option ℕ
place_of q ref = option_map (λ i. first_place q ref.side + i) (field_position ref.name (schema_of q ref.side))

-- a joined row's value in a column
abbrev pub ref_value : Query → ColumnRef → Row → Leaf
ref_value q ref row = option_map_or (value_at row) (place_of q ref) leaves.Null

abbrev pub operand_columns : Operand → List ColumnRef
operand_columns (operands.Column ref) = ref ∷ []
operand_columns (operands.Literal n) = []

abbrev pub filter_columns : Option Filter → List ColumnRef
filter_columns filter = option_map_or (λ f. f.left ∷ operand_columns f.right) filter []

-- the columns that are named: build keys, probe keys, the filter's, group keys, reductions
abbrev pub named_columns : Query → List ColumnRef
named_columns q = map (λ name. record { side = sides.Build; name = name }) q.build_keys
    ++ map (λ name. record { side = sides.Probe; name = name }) q.probe_keys
    ++ filter_columns q.filter ++ q.group_keys ++ map (λ r. r.column) q.reductions

-- a column that its side lacks
abbrev pub is_unknown : Query → ColumnRef → Bool
is_unknown q ref = is_none (type_named ref.name (schema_of q ref.side))
