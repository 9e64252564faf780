-- The field of a value.
use Rattle.std.specs.Prelude.{ℕ, Bool, true, false, List, ◌++◌, codes, if◌then◌else◌, nat_eq}
use Rattle.std.specs.List.{starts_with}
use Rattle.std.specs.Fmt.{signed_decimal}
use Rattle.hex.specs.Hex.{encode_lower}
use Rattle.col_core.specs.declared.data_type.DataType.{DataType}
use Rattle.col_core.specs.declared.data_type.DataType.TheVariants.{Binary}
use Rattle.col_core.specs.declared.leaf.Leaf.{Leaf}
use Rattle.col_core.specs.declared.leaf.Leaf.TheVariants as leaves

abbrev pub backslash : List ℕ
backslash = codes "\\"

-- a null is a backslash and N
abbrev pub null_text : List ℕ
null_text = codes "\\N"

abbrev pub truth_text : Bool → List ℕ
truth_text true = codes "true"
truth_text false = codes "false"

-- a text is written as it is, with one more backslash in front of one that begins with a backslash, so that none reads as a null
abbrev pub escaped_text : List ℕ → List ℕ
escaped_text text = if starts_with nat_eq text backslash then backslash ++ text else text

-- bytes are lower-case hexadecimal digits in a column of bytes, and a text in any other
abbrev pub bytes_text : DataType → List ℕ → List ℕ
bytes_text Binary bytes = encode_lower bytes
bytes_text _ bytes = escaped_text bytes

-- the field of a value in a column of a type: a whole number is written in decimal, as it is stored
abbrev pub value_text : DataType → Leaf → List ℕ
value_text dtype leaves.Null = null_text
value_text dtype (leaves.Bool truth) = truth_text truth
value_text dtype (leaves.Whole number) = signed_decimal number
value_text dtype (leaves.Bytes bytes) = bytes_text dtype bytes
