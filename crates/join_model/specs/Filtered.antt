-- The joined rows that pass the filter.
use Rattle.std.specs.Prelude.{ℤ, pos, Bool, true, false, not, int_lt, List, filter}
use Rattle.std.specs.Option.{option_map_or}
use Rattle.std.specs.Ordering.{int_eq}
use Rattle.col_core.specs.declared.leaf.Leaf.{Leaf}
use Rattle.col_core.specs.declared.leaf.Leaf.TheVariants as leaves
use Rattle.col_core.specs.Tables.{Row}
use Rattle.join_query.specs.declared.query.Query.{Query}
use Rattle.join_query.specs.declared.query.FilterOp.{FilterOp}
use Rattle.join_query.specs.declared.query.FilterOp.TheVariants as ops
use Rattle.join_query.specs.declared.query.IntLiteral.{IntLiteral}
use Rattle.join_query.specs.declared.query.IntLiteral.TheVariants as literals
use Rattle.join_query.specs.declared.query.Operand.{Operand}
use Rattle.join_query.specs.declared.query.Operand.TheVariants as operands
use Rattle.join_model.specs.ColumnRefs.{ref_value}
use Rattle.join_model.specs.Joined.{joined_rows}

-- the number of a literal
abbrev pub literal : IntLiteral → ℤ
literal (literals.I8 z) = z
literal (literals.I16 z) = z
literal (literals.I32 z) = z
literal (literals.I64 z) = z
literal (literals.U8 n) = pos n
literal (literals.U16 n) = pos n
literal (literals.U32 n) = pos n
literal (literals.U64 n) = pos n

abbrev pub operand_value : Query → Operand → Row → Leaf
operand_value q (operands.Column ref) row = ref_value q ref row
operand_value q (operands.Literal n) row = leaves.Whole (literal n)

abbrev pub compares : FilterOp → ℤ → ℤ → Bool
compares ops.Eq x y = int_eq x y
compares ops.Ne x y = not (int_eq x y)
compares ops.Lt x y = int_lt x y
compares ops.Le x y = not (int_lt y x)
compares ops.Gt x y = int_lt y x
compares ops.Ge x y = not (int_lt x y)

-- both operands are present, and the two whole numbers compare as the operation says
abbrev pub holds : FilterOp → Leaf → Leaf → Bool
holds op (leaves.Whole x) (leaves.Whole y) = compares op x y
holds op _ _ = false

-- a joined row passes where there is no filter, or its comparison holds
abbrev pub passes : Query → Row → Bool
passes q row = option_map_or (λ f. holds f.op (ref_value q f.left row) (operand_value q f.right row)) q.filter true

-- the joined rows that pass, in order
abbrev pub kept_rows : Query → List Row → List Row → List Row
kept_rows q build probe = filter (passes q) (joined_rows q build probe)
