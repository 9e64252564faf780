-- Types and fields: when they are equal, and fields by their names.
use Rattle.std.specs.Prelude.{ℕ, Bool, true, false, ◌==◌, ◌&&◌, List, [], ◌∷◌, Option, Some, None, position, cond}
use Rattle.std.specs.Str.{bytes_eq}
use Rattle.std.specs.Cmp.Lexicographic.{pointwise}
use Rattle.col_core.specs.declared.schema.Field.{Field}
use Rattle.col_core.specs.declared.data_type.TimeUnit.{TimeUnit}
use Rattle.col_core.specs.declared.data_type.TimeUnit.TheVariants.{Milliseconds, Microseconds, Nanoseconds}
use Rattle.col_core.specs.declared.data_type.DataType.{DataType}
use Rattle.col_core.specs.declared.data_type.DataType.TheVariants.{Boolean, Int8, Int16, Int32, Int64, UInt8, UInt16, UInt32, UInt64, Int128, Decimal, Date, Time, Datetime, Duration, String, Binary}

abbrev pub unit_eq : TimeUnit → TimeUnit → Bool
unit_eq Milliseconds Milliseconds = true
unit_eq Microseconds Microseconds = true
unit_eq Nanoseconds Nanoseconds = true
unit_eq _ _ = false

-- two types are equal when they are the same, with the same parameters
abbrev pub dtype_eq : DataType → DataType → Bool
dtype_eq Boolean Boolean = true
dtype_eq Int8 Int8 = true
dtype_eq Int16 Int16 = true
dtype_eq Int32 Int32 = true
dtype_eq Int64 Int64 = true
dtype_eq UInt8 UInt8 = true
dtype_eq UInt16 UInt16 = true
dtype_eq UInt32 UInt32 = true
dtype_eq UInt64 UInt64 = true
dtype_eq Int128 Int128 = true
dtype_eq (Decimal p s) (Decimal r t) = (p == r) && (s == t)
dtype_eq Date Date = true
dtype_eq Time Time = true
dtype_eq (Datetime u) (Datetime v) = unit_eq u v
dtype_eq (Duration u) (Duration v) = unit_eq u v
dtype_eq String String = true
dtype_eq Binary Binary = true
dtype_eq _ _ = false

abbrev pub field_eq : Field → Field → Bool
field_eq f g = bytes_eq f.name g.name && dtype_eq f.dtype g.dtype

-- two schemas are equal when their fields are, place by place
abbrev pub schema_eq : List Field → List Field → Bool
schema_eq a b = pointwise field_eq a b

-- the place of the first field of a name
abbrev pub field_position : List ℕ → List Field → Option ℕ
field_position name fields = position (λ f. bytes_eq f.name name) fields

-- the type of the first field of a name
abbrev pub type_named : List ℕ → List Field → Option DataType
type_named name [] = None
type_named name (f ∷ fs) = cond (bytes_eq f.name name) (Some f.dtype) (type_named name fs)
