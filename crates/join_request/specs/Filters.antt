-- Filters: an operation, a column, and a column or a literal.
use Rattle.std.specs.Prelude.{ℕ, ℤ, unsigned_abs, List, [], ◌∷◌, codes, Option, Some, None, option_map}
use Rattle.serde_json.specs.Data.{Data, null, string}
use Rattle.serde_json.specs.Find.{as_str}
use Rattle.col_core.specs.declared.data_type.DataType.{DataType}
use Rattle.col_core.specs.declared.data_type.DataType.TheVariants.{Int8, Int16, Int32, Int64, UInt8, UInt16, UInt32, UInt64}
use Rattle.join_query.specs.declared.query.FilterOp.{FilterOp}
use Rattle.join_query.specs.declared.query.FilterOp.TheVariants.{Eq, Ne, Lt, Le, Gt, Ge}
use Rattle.join_query.specs.declared.query.IntLiteral.{IntLiteral}
use Rattle.join_query.specs.declared.query.IntLiteral.TheVariants.{I8, I16, I32, I64, U8, U16, U32, U64}
use Rattle.join_query.specs.declared.query.Operand.{Operand}
use Rattle.join_query.specs.declared.query.Operand.TheVariants.{Column, Literal}
use Rattle.join_query.specs.declared.query.Filter.{Filter}
use Rattle.join_request.specs.Json.{◌>>=◌, named, only_member, triple_of}
use Rattle.join_request.specs.Types.{type_of_text}
use Rattle.join_request.specs.Leaves.{integer_of_value}
use Rattle.join_request.specs.Parts.{column_of_text, column_of_value}

-- the operation that a word names
abbrev pub op_of_text : List ℕ → Option FilterOp
op_of_text text = named ((codes "eq", Eq) ∷ (codes "ne", Ne) ∷ (codes "lt", Lt) ∷ (codes "le", Le) ∷ (codes "gt", Gt) ∷ (codes "ge", Ge) ∷ []) text

-- a whole number with its type, one of the eight integer types to 64 bits
abbrev pub literal_of : DataType → ℤ → Option IntLiteral
literal_of Int8 z = Some (I8 z)
literal_of Int16 z = Some (I16 z)
literal_of Int32 z = Some (I32 z)
literal_of Int64 z = Some (I64 z)
literal_of UInt8 z = Some (U8 (unsigned_abs z))
literal_of UInt16 z = Some (U16 (unsigned_abs z))
literal_of UInt32 z = Some (U32 (unsigned_abs z))
literal_of UInt64 z = Some (U64 (unsigned_abs z))
literal_of dtype z = None

-- a literal: an object with one member, whose name is the type and whose value is an integer of it
abbrev pub literal_of_value : Data → Option IntLiteral
literal_of_value d = do
  found ← only_member d
  dtype ← type_of_text found.0
  z ← integer_of_value dtype found.1
  literal_of dtype z

-- the right side of a comparison: a text is a column, and an object is a literal
abbrev pub operand_of_value : Data → Option Operand
operand_of_value (string text) = option_map Column (column_of_text text)
operand_of_value d = option_map Literal (literal_of_value d)

-- a comparison: a list of an operation, a column and an operand
abbrev pub comparison_of_value : Data → Option Filter
comparison_of_value d = do
  parts ← triple_of d
  op ← as_str parts.0 >>= op_of_text
  left ← column_of_value parts.1
  right ← operand_of_value parts.2
  Some (record { op = op; left = left; right = right })

-- a filter: null, or a comparison
abbrev pub filter_of_value : Data → Option (Option Filter)
filter_of_value null = Some None
filter_of_value d = option_map Some (comparison_of_value d)
