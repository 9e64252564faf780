-- Values as they are kept, and how the values of types are kept.
use Rattle.std.specs.Prelude.{ℕ, ℤ, Bool, List, Option, Some, None}
use Rattle.col_core.specs.declared.leaf.Leaf.{Leaf}
use Rattle.col_core.specs.declared.leaf.Leaf.TheVariants as leaves
use Rattle.col_core.specs.declared.data_type.PhysicalType.{PhysicalType}
use Rattle.col_core.specs.declared.data_type.PhysicalType.TheVariants as kept
use Rattle.col_core.specs.declared.data_type.DataType.{DataType}
use Rattle.col_core.specs.Physical.{physical_of, physical_eq}

-- a number as a value, and no number as a null
abbrev pub number_or_null : {T : Type 0} → (T → ℤ) → Option T → Leaf
number_or_null value (Some x) = leaves.Whole (value x)
number_or_null value None = leaves.Null

abbrev pub truth_or_null : Option Bool → Leaf
truth_or_null (Some b) = leaves.Bool b
truth_or_null None = leaves.Null

abbrev pub bytes_or_null : Option (List ℕ) → Leaf
bytes_or_null (Some b) = leaves.Bytes b
bytes_or_null None = leaves.Null

-- the values of a type are kept so
abbrev pub is_kept_as : PhysicalType → DataType → Bool
is_kept_as p t = physical_eq (physical_of t) p

-- a number for each way in which values are kept
abbrev pub kept_number : PhysicalType → ℕ
kept_number kept.Boolean = 0
kept_number kept.I8 = 1
kept_number kept.I16 = 2
kept_number kept.I32 = 3
kept_number kept.I64 = 4
kept_number kept.I128 = 5
kept_number kept.U8 = 6
kept_number kept.U16 = 7
kept_number kept.U32 = 8
kept_number kept.U64 = 9
kept_number kept.Bytes = 10
