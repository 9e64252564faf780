-- Values of columns: what a JSON value is as a value of a type.
use Rattle.std.specs.Prelude.{ℕ, ◌-◌, ◌^◌, nat_eq, nat_le, ◌&&◌, ℤ, pos, negsuc, int_le, Bool, List, length, drop, if◌then◌else◌, codes, Option, Some, None, option_map}
use Rattle.std.specs.Char.{is_ascii_digit}
use Rattle.std.specs.List.{starts_with, list_all}
use Rattle.std.specs.Result.{result_ok}
use Rattle.std.specs.Str.Parse.{signed_digits_value}
use Rattle.hex.specs.Hex.{decode_of}
use Rattle.serde_json.specs.Data.{Data, null, string}
use Rattle.serde_json.specs.Find.{as_bool, as_integer, as_number, as_str}
use Rattle.col_core.specs.declared.leaf.Leaf.{Leaf}
use Rattle.col_core.specs.declared.leaf.Leaf.TheVariants as leaves
use Rattle.col_core.specs.declared.data_type.DataType.{DataType}
use Rattle.col_core.specs.declared.data_type.DataType.TheVariants.{Boolean, Int8, Int16, Int32, Int64, UInt8, UInt16, UInt32, UInt64, Int128, Decimal, Date, Time, Datetime, Duration, String, Binary}
use Rattle.join_request.specs.Json.{◌>>=◌}

-- the least and the greatest whole number of n bits, beside a sign or without one
abbrev pub signed_range : ℕ → ℤ × ℤ
signed_range n = (negsuc (2 ^ n - 1), pos (2 ^ n - 1))

abbrev pub unsigned_range : ℕ → ℤ × ℤ
unsigned_range n = (pos 0, pos (2 ^ n - 1))

-- the least and the greatest whole number of a type, where its values are whole numbers
abbrev pub range_of : DataType → Option (ℤ × ℤ)
range_of Int8 = Some (signed_range 7)
range_of Int16 = Some (signed_range 15)
range_of Int32 = Some (signed_range 31)
range_of Int64 = Some (signed_range 63)
range_of UInt8 = Some (unsigned_range 8)
range_of UInt16 = Some (unsigned_range 16)
range_of UInt32 = Some (unsigned_range 32)
range_of UInt64 = Some (unsigned_range 64)
range_of Int128 = Some (signed_range 127)
range_of (Decimal p s) = Some (signed_range 127)
range_of Date = Some (signed_range 31)
range_of Time = Some (signed_range 63)
range_of (Datetime u) = Some (signed_range 63)
range_of (Duration u) = Some (signed_range 63)
range_of dtype = None

-- the number, where it lies from the least to the greatest
abbrev pub within : ℤ × ℤ → ℤ → Option ℤ
within range z = if int_le range.0 z && int_le z range.1 then Some z else None

-- the number, where it is one of the type
abbrev pub in_range_of : DataType → ℤ → Option ℤ
in_range_of dtype z = do
  range ← range_of dtype
  within range z

-- a JSON integer from the least to the greatest
abbrev pub integer_in : ℤ × ℤ → Data → Option ℤ
integer_in range d = as_number d >>= as_integer >>= within range

-- a JSON integer of a type
abbrev pub integer_of_value : DataType → Data → Option ℤ
integer_of_value dtype d = as_number d >>= as_integer >>= in_range_of dtype

-- a text without the `-` that it may begin with
abbrev pub without_minus : List ℕ → List ℕ
without_minus text = if starts_with nat_eq text (codes "-") then drop 1 text else text

-- an optional `-`, and 1 to 39 decimal digits
abbrev pub is_whole_text : List ℕ → Bool
is_whole_text text =
    let digits = without_minus text in
    list_all is_ascii_digit digits && (nat_le 1 (length digits) && nat_le (length digits) 39)

-- the whole number of 128 bits that a text writes
abbrev pub whole_of_text : List ℕ → Option ℤ
whole_of_text text = if is_whole_text text then in_range_of Int128 (signed_digits_value 10 text) else None

-- a whole number of a type: a JSON integer, and at 128 bits also a text
abbrev pub whole_of_value : DataType → Data → Option ℤ
whole_of_value Int128 (string text) = whole_of_text text
whole_of_value (Decimal p s) (string text) = whole_of_text text
whole_of_value dtype d = integer_of_value dtype d

-- the bytes that hexadecimal digits in either case write, two for each
abbrev pub bytes_of_text : List ℕ → Option (List ℕ)
bytes_of_text text = result_ok (decode_of text)

-- the value of a type, where it is not null
abbrev pub present_value : DataType → Data → Option Leaf
present_value Boolean d = option_map leaves.Bool (as_bool d)
present_value String d = option_map leaves.Bytes (as_str d)
present_value Binary d = option_map leaves.Bytes (as_str d >>= bytes_of_text)
present_value dtype d = option_map leaves.Whole (whole_of_value dtype d)

-- the value of a type, or null
abbrev pub leaf_of_value : DataType → Data → Option Leaf
leaf_of_value dtype null = Some leaves.Null
leaf_of_value dtype d = present_value dtype d
