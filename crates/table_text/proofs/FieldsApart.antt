-- Fields tell the values of a column apart.
use Rattle.std.proofs.Common.{◌≡◌, ◌≢◌, ℕ, ℤ, pos, negsuc, suc, ◌<◌, ◌≤◌, inl, inr, ◌^◌, Bool, true, false, List, ◌∷◌, codes, drop, get_or, refl, sym, ap, ◌∙◌, subst, arith}
use lib.Signed.{mag}
use Rattle.std.specs.Prelude.{◌⊎◌, nat_eq, if◌then◌else◌}
use Rattle.std.specs.Int.{FitsUnsignedBits}
use Rattle.std.specs.List.{starts_with}
use Rattle.std.proofs.lemmas.Bool.{cases_Bool}
use Rattle.std.specs.Fmt.{signed_decimal, decimal}
use Rattle.std.specs.Str.Parse.{AllDigits, digits_value}
use Rattle.std.proofs.lemmas.Fmt.{decimal_is_IsNumeral_wide}
use Rattle.std.proofs.lemmas.Str.Parse.{digit_from_value}
use Rattle.hex.specs.Hex.{IsBytes, decode_of, decode_pairs, encode_lower}
use Rattle.hex.proofs.HexLemmas.{decode_of-encode_lower}
use Rattle.col_core.specs.declared.leaf.Leaf.TheVariants as leaves
use Rattle.col_core.specs.declared.data_type.DataType.{DataType}
use Rattle.col_core.specs.declared.data_type.DataType.TheVariants.{Int8, Int16, Int32, Int64, UInt8, UInt16, UInt32, UInt64, Int128, Decimal, Date, Time, Datetime, Duration, String, Binary}
use Rattle.col_core.specs.Values.{IsWholeOf, AreBytesOf}
use Rattle.table_text.specs.Fields.{null_text, truth_text, backslash, escaped_text, bytes_text}
use Rattle.table_text.specs.Laws.{TellsApart}

-- a whole number of any type has fewer digits than `decimal` gives
abbrev IsShort : ℤ → Type 0
IsShort (pos n) = n < 10 ^ 64
IsShort (negsuc n) = suc n < 10 ^ 64

short_mag : (z : ℤ) → mag z < 2 ^ 127 → IsShort z
short_mag (pos n) h = omega arith
short_mag (negsuc n) h = omega arith

short_unsigned : (k : ℕ) (z : ℤ) → 2 ^ k ≤ 2 ^ 64 → FitsUnsignedBits k z → IsShort z
short_unsigned k (pos n) b h = omega (arith, b, h)
short_unsigned k (negsuc n) b h = absurd h

short : (t : DataType) (z : ℤ) → IsWholeOf t z → IsShort z
short Int8 z h = short_mag z (omega (arith, h.sfits))
short Int16 z h = short_mag z (omega (arith, h.sfits))
short Int32 z h = short_mag z (omega (arith, h.sfits))
short Int64 z h = short_mag z (omega (arith, h.sfits))
short Int128 z h = short_mag z (omega (arith, h.sfits))
short (Decimal p s) z h = short_mag z (omega (arith, h.sfits))
short Date z h = short_mag z (omega (arith, h.sfits))
short Time z h = short_mag z (omega (arith, h.sfits))
short (Datetime u) z h = short_mag z (omega (arith, h.sfits))
short (Duration u) z h = short_mag z (omega (arith, h.sfits))
short UInt8 z h = short_unsigned 8 z (omega arith) h
short UInt16 z h = short_unsigned 16 z (omega arith) h
short UInt32 z h = short_unsigned 32 z (omega arith) h
short UInt64 z h = short_unsigned 64 z (omega arith) h
short _ z h = absurd h

decimal_apart : (m n : ℕ) → m < 10 ^ 64 → n < 10 ^ 64 → decimal m ≡ decimal n → m ≡ n
decimal_apart m n p q e = sym (decimal_is_IsNumeral_wide m p).1 ∙ ap (digits_value 10) e ∙ (decimal_is_IsNumeral_wide n q).1

-- a decimal begins with a digit
no_decimal : (c n : ℕ) (rest : List ℕ) → (c < 48) ⊎ (57 < c) → n < 10 ^ 64 → decimal n ≢ c ∷ rest
no_decimal c n rest outside h e = omega (arith, outside, digit_from_value c (subst (AllDigits 10) e (decimal_is_IsNumeral_wide n h).0.1).0)

whole_apart : (y z : ℤ) → IsShort y → IsShort z → signed_decimal y ≡ signed_decimal z → y ≡ z
whole_apart (pos m) (pos n) p q e = ap pos (decimal_apart m n p q e)
whole_apart (pos m) (negsuc n) p q e = absurd (no_decimal 45 m _ (inl (omega arith)) p e)
whole_apart (negsuc m) (pos n) p q e = absurd (no_decimal 45 n _ (inl (omega arith)) q (sym e))
whole_apart (negsuc m) (negsuc n) p q e = ap negsuc (omega (arith, decimal_apart (suc m) (suc n) p q (ap (drop 1) e)))

whole_no_null : (z : ℤ) → IsShort z → signed_decimal z ≢ null_text
whole_no_null (pos n) h e = no_decimal 92 n (codes "N") (inr (omega arith)) h e
whole_no_null (negsuc n) h e = omega (arith, ap (λ (xs : List ℕ). get_or xs 0 0) e)

-- a text, from its field
abbrev unescaped : List ℕ → List ℕ
unescaped field = if starts_with nat_eq field backslash then drop 1 field else field

unescaped_is : (t : List ℕ) → unescaped (escaped_text t) ≡ t
unescaped_is t = elim (cases_Bool (starts_with nat_eq t backslash)) [
  | inl starts ↦ rw starts refl
  | inr other ↦ rw (other, other) refl
]

escaped_apart : (s t : List ℕ) → escaped_text s ≡ escaped_text t → s ≡ t
escaped_apart s t e = sym (unescaped_is s) ∙ ap unescaped e ∙ unescaped_is t

escaped_no_null : (t : List ℕ) → escaped_text t ≢ null_text
escaped_no_null t e =
    let is : t ≡ codes "N" = sym (unescaped_is t) ∙ ap unescaped e in
    cc (subst (λ (x : List ℕ). escaped_text x ≡ null_text) is e)

bytes_apart : (a b : List ℕ) → IsBytes a → IsBytes b → encode_lower a ≡ encode_lower b → a ≡ b
bytes_apart a b p q e = cc (sym (decode_of-encode_lower a p) ∙ ap decode_of e ∙ decode_of-encode_lower b q)

bytes_no_null : (b : List ℕ) → IsBytes b → encode_lower b ≢ null_text
unfolding decode_pairs
bytes_no_null b h e = cc (sym (decode_of-encode_lower b h) ∙ ap decode_of e)

-- how a type writes bytes
written_as : (t : DataType) → ((b : List ℕ) → bytes_text t b ≡ escaped_text b) ⊎ ((b : List ℕ) → bytes_text t b ≡ encode_lower b)
written_as Binary = inr (λ b. refl)
written_as _ = inl (λ b. refl)

text_no_null : (t : DataType) (b : List ℕ) → IsBytes b → bytes_text t b ≢ null_text
text_no_null t b h e = elim (written_as t) [
  | inl text ↦ escaped_no_null b (sym (text b) ∙ e)
  | inr digits ↦ bytes_no_null b h (sym (digits b) ∙ e)
]

texts_apart : (t : DataType) (a b : List ℕ) → IsBytes a → IsBytes b → bytes_text t a ≡ bytes_text t b → a ≡ b
texts_apart t a b p q e = elim (written_as t) [
  | inl text ↦ escaped_apart a b (sym (text a) ∙ e ∙ text b)
  | inr digits ↦ bytes_apart a b p q (sym (digits a) ∙ e ∙ digits b)
]

truth_no_null : (b : Bool) → truth_text b ≢ null_text
truth_no_null true e = cc e
truth_no_null false e = cc e

truths_apart : (a b : Bool) → truth_text a ≡ truth_text b → a ≡ b
truths_apart true true e = refl
truths_apart false false e = refl
truths_apart true false e = cc e
truths_apart false true e = cc e

-- a type has whole numbers or bytes
one_kind : (t : DataType) (z : ℤ) (b : List ℕ) → IsWholeOf t z → AreBytesOf t b → ⊥
one_kind String z b w h = w
one_kind Binary z b w h = w
one_kind _ z b w h = h

pub apart : (t : DataType) → TellsApart t
apart t leaves.Null leaves.Null p q i j e = refl
apart t leaves.Null (leaves.Bool b) p q i j e = absurd (truth_no_null b (sym e))
apart t leaves.Null (leaves.Whole z) p q i j e = absurd (whole_no_null z (short t z q) (sym e))
apart t leaves.Null (leaves.Bytes b) p q i j e = absurd (text_no_null t b j (sym e))
apart t (leaves.Bool b) leaves.Null p q i j e = absurd (truth_no_null b e)
apart t (leaves.Bool a) (leaves.Bool b) p q i j e = ap leaves.Bool (truths_apart a b e)
apart t (leaves.Bool b) (leaves.Whole z) p q i j e = absurd (subst (λ (u : DataType). IsWholeOf u z) p q)
apart t (leaves.Bool a) (leaves.Bytes b) p q i j e = absurd (subst (λ (u : DataType). AreBytesOf u b) p q)
apart t (leaves.Whole z) leaves.Null p q i j e = absurd (whole_no_null z (short t z p) e)
apart t (leaves.Whole z) (leaves.Bool b) p q i j e = absurd (subst (λ (u : DataType). IsWholeOf u z) q p)
apart t (leaves.Whole y) (leaves.Whole z) p q i j e = ap leaves.Whole (whole_apart y z (short t y p) (short t z q) e)
apart t (leaves.Whole z) (leaves.Bytes b) p q i j e = absurd (one_kind t z b p q)
apart t (leaves.Bytes b) leaves.Null p q i j e = absurd (text_no_null t b i e)
apart t (leaves.Bytes b) (leaves.Bool a) p q i j e = absurd (subst (λ (u : DataType). AreBytesOf u b) q p)
apart t (leaves.Bytes b) (leaves.Whole z) p q i j e = absurd (one_kind t z b q p)
apart t (leaves.Bytes a) (leaves.Bytes b) p q i j e = ap leaves.Bytes (texts_apart t a b i j e)
