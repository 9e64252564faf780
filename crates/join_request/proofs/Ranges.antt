-- Whole numbers in the range of a type.
use Rattle.std.proofs.Common.{◌≡◌, ℕ, ℤ, pos, negsuc, ◌≤ℤ◌, true, false, Option, Some, None, is_some, option_map, option_and_then, FitsSigned, refl, ap, ◌∙◌, arith}
use Rattle.std.specs.Int.{FitsUnsignedBits, w8, w16, w32, w64, w128}
use mir.Syntax.{Width}
use mir.Val.{hbits}
use Rattle.std.proofs.lemmas.Int.{ints}
use Rattle.std.proofs.lemmas.Nat.{pow_pos}
use Rattle.col_core.specs.declared.data_type.DataType.{DataType}
use Rattle.col_core.specs.declared.data_type.DataType.TheVariants.{Boolean, Int8, Int16, Int32, Int64, UInt8, UInt16, UInt32, UInt64, Int128, Decimal, Date, Time, Datetime, Duration, String, Binary}
use Rattle.col_core.specs.Values.{IsWholeOf}
use Rattle.col_core.specs.declared.leaf.Leaf.TheVariants as leaves
use Rattle.serde_json.specs.Data.{Data, null, boolean, number, string, array, object}
use Rattle.serde_json.specs.Find.{as_null, as_number, as_integer}
use Rattle.join_request.specs.Leaves.{range_of, signed_range, unsigned_range, within, integer_in, integer_of_value, whole_of_value, present_value, leaf_of_value}

same_pair : (a b : ℤ × ℤ) → Some a ≡ Some b → (a.0 ≡ b.0) × (a.1 ≡ b.1)
same_pair a b e = let same : a ≡ b = cc in (ap (λ (p : ℤ × ℤ). p.0) same, ap (λ (p : ℤ × ℤ). p.1) same)

signed : (w : Width) (z least greatest : ℤ) → Some (signed_range (hbits w)) ≡ Some (least, greatest) → least ≤ℤ z → z ≤ℤ greatest → FitsSigned w z
signed w (pos n) least greatest e lo hi =
    let p = same_pair (signed_range (hbits w)) (least, greatest) e in record { sfits = omega (arith, ints, p.1, pow_pos (hbits w)) }
signed w (negsuc n) least greatest e lo hi =
    let p = same_pair (signed_range (hbits w)) (least, greatest) e in record { sfits = omega (arith, ints, p.0, pow_pos (hbits w)) }

unsigned : (n : ℕ) (z least greatest : ℤ) → Some (unsigned_range n) ≡ Some (least, greatest) → least ≤ℤ z → z ≤ℤ greatest → FitsUnsignedBits n z
unsigned n (pos m) least greatest e lo hi =
    let p = same_pair (unsigned_range n) (least, greatest) e in omega (arith, ints, p.1, pow_pos n)
unsigned n (negsuc m) least greatest e lo hi =
    let p = same_pair (unsigned_range n) (least, greatest) e in absurd (omega (arith, ints, p.0))

-- the numbers from the least to the greatest one of a type are its numbers
pub fits_range : (t : DataType) (z least greatest : ℤ) → range_of t ≡ Some (least, greatest) → least ≤ℤ z → z ≤ℤ greatest → IsWholeOf t z
fits_range Int8 z least greatest e lo hi = signed w8 z least greatest e lo hi
fits_range Int16 z least greatest e lo hi = signed w16 z least greatest e lo hi
fits_range Int32 z least greatest e lo hi = signed w32 z least greatest e lo hi
fits_range Int64 z least greatest e lo hi = signed w64 z least greatest e lo hi
fits_range UInt8 z least greatest e lo hi = unsigned 8 z least greatest e lo hi
fits_range UInt16 z least greatest e lo hi = unsigned 16 z least greatest e lo hi
fits_range UInt32 z least greatest e lo hi = unsigned 32 z least greatest e lo hi
fits_range UInt64 z least greatest e lo hi = unsigned 64 z least greatest e lo hi
fits_range Int128 z least greatest e lo hi = signed w128 z least greatest e lo hi
fits_range (Decimal p s) z least greatest e lo hi = signed w128 z least greatest e lo hi
fits_range Date z least greatest e lo hi = signed w32 z least greatest e lo hi
fits_range Time z least greatest e lo hi = signed w64 z least greatest e lo hi
fits_range (Datetime u) z least greatest e lo hi = signed w64 z least greatest e lo hi
fits_range (Duration u) z least greatest e lo hi = signed w64 z least greatest e lo hi
fits_range Boolean z least greatest e lo hi = absurd (cc)
fits_range String z least greatest e lo hi = absurd (cc)
fits_range Binary z least greatest e lo hi = absurd (cc)

-- a JSON integer of a type lies in its range
pub integer_of_range : (t : DataType) (least greatest : ℤ) (d : Data) → range_of t ≡ Some (least, greatest) → integer_of_value t d ≡ integer_in (least, greatest) d
integer_of_range t least greatest d e = ap (λ (r : Option (ℤ × ℤ)). option_and_then (λ (z : ℤ). option_and_then (λ (range : ℤ × ℤ). within range z) r) (option_and_then as_integer (as_number d))) e

none_after : {A B : Type 0} (o : Option A) → option_and_then (λ (x : A). let none : Option B = None in none) o ≡ None
none_after None = refl
none_after (Some x) = refl

pub no_integer : (t : DataType) (d : Data) → range_of t ≡ None → integer_of_value t d ≡ None
no_integer t d e =
    let found : Option ℤ = option_and_then as_integer (as_number d) in
    ap (λ (r : Option (ℤ × ℤ)). option_and_then (λ (z : ℤ). option_and_then (λ (range : ℤ × ℤ). within range z) r) found) e ∙ none_after found

pub ruleset integers = (fits_range, integer_of_range, no_integer)

-- a value of a type of whole numbers is null or a whole number
pub present_whole : (t : DataType) (least greatest : ℤ) (d : Data) → range_of t ≡ Some (least, greatest) → present_value t d ≡ option_map leaves.Whole (whole_of_value t d)
present_whole Boolean least greatest d e = absurd (cc)
present_whole String least greatest d e = absurd (cc)
present_whole Binary least greatest d e = absurd (cc)
present_whole _ least greatest d e = refl

pub leaf_present : (t : DataType) (d : Data) → is_some (as_null d) ≡ false → leaf_of_value t d ≡ present_value t d
leaf_present t null h = absurd (cc)
leaf_present t (boolean b) h = refl
leaf_present t (number n) h = refl
leaf_present t (string s) h = refl
leaf_present t (array ds) h = refl
leaf_present t (object ms) h = refl

pub ruleset wholes = (present_whole, leaf_present)

-- each type but three is one of whole numbers
pub has_range : (t : DataType) → ¬ (t ≡ Boolean) → ¬ (t ≡ String) → ¬ (t ≡ Binary) → is_some (range_of t) ≡ true
has_range Boolean a b c = absurd (a refl)
has_range String a b c = absurd (b refl)
has_range Binary a b c = absurd (c refl)
has_range _ a b c = refl
