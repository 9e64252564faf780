-- The types of columns, by their texts.
use Rattle.std.specs.Prelude.{ℕ, ◌+◌, ◌-◌, ◌*◌, ◌==◌, nat_eq, nat_le, nat_lt, Bool, ◌&&◌, List, [], ◌∷◌, length, take, drop, if◌then◌else◌, codes, Option, Some, None}
use Rattle.std.specs.Int.{is_in_range}
use Rattle.std.specs.List.{starts_with, ends_with, position_or_len, before_first, after_first}
use Rattle.std.specs.Option.{option_or}
use Rattle.col_core.specs.declared.data_type.TimeUnit.TheVariants.{Milliseconds, Microseconds, Nanoseconds}
use Rattle.col_core.specs.declared.data_type.DataType.{DataType}
use Rattle.col_core.specs.declared.data_type.DataType.TheVariants.{Boolean, Int8, Int16, Int32, Int64, UInt8, UInt16, UInt32, UInt64, Int128, Decimal, Date, Time, Datetime, Duration, String, Binary}
use Rattle.join_request.specs.Json.{◌>>=◌, named}

-- the types whose names have no numbers of their own
abbrev pub named_types : List (List ℕ × DataType)
named_types =
    (codes "Boolean", Boolean)
    ∷ (codes "Int8", Int8) ∷ (codes "Int16", Int16) ∷ (codes "Int32", Int32) ∷ (codes "Int64", Int64)
    ∷ (codes "UInt8", UInt8) ∷ (codes "UInt16", UInt16) ∷ (codes "UInt32", UInt32) ∷ (codes "UInt64", UInt64)
    ∷ (codes "Int128", Int128)
    ∷ (codes "Date", Date)
    ∷ (codes "Time", Time)
    ∷ (codes "Datetime(ms)", Datetime Milliseconds) ∷ (codes "Datetime(us)", Datetime Microseconds) ∷ (codes "Datetime(ns)", Datetime Nanoseconds)
    ∷ (codes "Duration(ms)", Duration Milliseconds) ∷ (codes "Duration(us)", Duration Microseconds) ∷ (codes "Duration(ns)", Duration Nanoseconds)
    ∷ (codes "String", String)
    ∷ (codes "Binary", Binary)
    ∷ []

-- a whole number below 100 in decimal digits, without a leading zero; 48 to 57 are the codes of `0` to `9`
abbrev pub small_number : List ℕ → Option ℕ
small_number (ones ∷ []) = if is_in_range 48 57 ones then Some (ones - 48) else None
small_number (tens ∷ ones ∷ []) = if is_in_range 49 57 tens && is_in_range 48 57 ones then Some ((tens - 48) * 10 + (ones - 48)) else None
small_number text = None

-- what stands in the brackets of `Decimal(..)`
abbrev pub without_front : List ℕ → List ℕ → Option (List ℕ)
without_front front text = if starts_with nat_eq text front then Some (drop (length front) text) else None

abbrev pub without_back : List ℕ → List ℕ → Option (List ℕ)
without_back back text = if ends_with nat_eq text back then Some (take (length text - length back) text) else None

abbrev pub bracketed : List ℕ → Option (List ℕ)
bracketed text = without_front (codes "Decimal(") text >>= without_back (codes ")")

-- what stands before the first comma and after it
abbrev pub is_comma : ℕ → Bool
is_comma c = c == 44

abbrev pub comma_parts : List ℕ → Option (List ℕ × List ℕ)
comma_parts text = if nat_lt (position_or_len is_comma text) (length text) then Some (before_first is_comma text, after_first is_comma text) else None

-- `Decimal(p,s)`: a precision of 1 to 38 digits, and a scale of at most as many
abbrev pub decimal_of_text : List ℕ → Option DataType
decimal_of_text text = do
  parts ← bracketed text >>= comma_parts
  precision ← small_number parts.0
  scale ← small_number parts.1
  if nat_le 1 precision && nat_le precision 38 && nat_le scale precision then Some (Decimal precision scale) else None

-- the type that a text names
abbrev pub type_of_text : List ℕ → Option DataType
type_of_text text = option_or (named named_types text) (decimal_of_text text)
