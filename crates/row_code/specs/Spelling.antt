-- The bytes of a row: those of its values, one after the other.
use Rattle.std.specs.Prelude.{◌≡◌, ◌<◌, ◌^◌, ℕ, ℤ, Bool, cond, List, [], ◌∷◌, ◌++◌, length}
use Rattle.std.specs.Int.{Width, w8, w16, w32, w64, w128, to_le_bytes, cast_unsigned}
use Rattle.col_core.specs.declared.data_type.DataType.{DataType}
use Rattle.col_core.specs.declared.data_type.PhysicalType.{PhysicalType}
use Rattle.col_core.specs.declared.data_type.PhysicalType.TheVariants as kept
use Rattle.col_core.specs.declared.leaf.Leaf.{Leaf}
use Rattle.col_core.specs.declared.leaf.Leaf.TheVariants as leaves
use Rattle.col_core.specs.declared.schema.Field.{Field}
use Rattle.col_core.specs.Physical.{physical_of}
use Rattle.col_core.specs.Values.{Fits}
use Rattle.col_core.specs.Tables.{Row, FitsSchema}

-- the width of the whole numbers of a kind; of a kind without them any
abbrev pub width_of : PhysicalType → Width
width_of kept.Boolean = w8
width_of kept.I8 = w8
width_of kept.I16 = w16
width_of kept.I32 = w32
width_of kept.I64 = w64
width_of kept.I128 = w128
width_of kept.U8 = w8
width_of kept.U16 = w16
width_of kept.U32 = w32
width_of kept.U64 = w64
width_of kept.Bytes = w8

-- a whole number's two's complement of a width, the least byte first
abbrev pub whole_bytes : Width → ℤ → List ℕ
whole_bytes w z = to_le_bytes w (cast_unsigned w z)

-- a truth value's byte
abbrev pub truth_byte : Bool → ℕ
truth_byte b = cond b 1 0

-- a null is a zero; a present value is a one and then its bytes, which of texts and bytes are their
-- number in eight bytes and then themselves
abbrev pub spelling : DataType → Leaf → List ℕ
spelling t leaves.Null = 0 ∷ []
spelling t (leaves.Bool b) = 1 ∷ truth_byte b ∷ []
spelling t (leaves.Whole z) = 1 ∷ whole_bytes (width_of (physical_of t)) z
spelling t (leaves.Bytes b) = 1 ∷ to_le_bytes w64 (length b) ++ b

abbrev pub row_spelling : List Field → Row → List ℕ
row_spelling (f ∷ fs) (v ∷ vs) = spelling f.dtype v ++ row_spelling fs vs
row_spelling _ _ = []

-- eight bytes hold the number of the bytes of a value
abbrev pub IsShort : Leaf → Type 0
IsShort (leaves.Bytes b) = length b < 2 ^ 64
IsShort _ = Unit {0}

abbrev pub AreShort : Row → Type 0
AreShort [] = Unit {0}
AreShort (v ∷ vs) = IsShort v × AreShort vs

-- a value of a type; where it is a text or bytes, of a length that eight bytes hold
pub record IsValueOf (dtype : DataType) (value : Leaf) : Type 0 where
  pub fits : Fits dtype value
  pub short : IsShort value

-- a row of a schema, whose texts and bytes have lengths that eight bytes hold
pub record IsRowOf (schema : List Field) (row : Row) : Type 0 where
  pub fits : FitsSchema schema row
  pub short : AreShort row

-- these bytes spell this row of a schema
pub record Spells (schema : List Field) (row : Row) (bytes : List ℕ) : Type 0 where
  pub of : IsRowOf schema row
  pub same : bytes ≡ row_spelling schema row

-- these bytes are those of a value of a type, and then a rest
pub record ValueInFront (dtype : DataType) (value : Leaf) (rest bytes : List ℕ) : Type 0 where
  pub of : IsValueOf dtype value
  pub same : bytes ≡ spelling dtype value ++ rest

-- the first n of these bytes spell a row of a schema
pub record RowInFront (schema : List Field) (n : ℕ) (bytes : List ℕ) : Type 0 where
  pub row : Row
  pub front : List ℕ
  pub rest : List ℕ
  pub spells : Spells schema row front
  pub cut : bytes ≡ front ++ rest
  pub long : length front ≡ n

-- these bytes spell a row of a schema
abbrev pub IsSpelling : List Field → List ℕ → Type 0
IsSpelling schema bytes = (row : Row) × Spells schema row bytes

-- bytes that begin with those of a value of a type
abbrev pub HasValueInFront : DataType → List ℕ → Type 0
HasValueInFront dtype bytes = (value : Leaf) × (rest : List ℕ) × ValueInFront dtype value rest bytes

-- rows of a schema, as their bytes
pub record Spelled : Type 0 where
  pub schema : List Field
  pub rows : List (List ℕ)

-- bytes that begin with the spelling of a row of a schema begin with that of no other
abbrev pub AreApart : List Field → Type 0
AreApart schema = (xs ys : Row) (a b r s : List ℕ)
    → Spells schema xs a → Spells schema ys b → a ++ r ≡ b ++ s → (xs ≡ ys) × (r ≡ s)
