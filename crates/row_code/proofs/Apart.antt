-- Bytes that begin with the spelling of a row begin with that of no other.
use Rattle.std.proofs.Common.{◌≡◌, ℕ, ◌+◌, ◌<◌, ◌≤◌, ◌^◌, Bool, true, false, List, [], ◌∷◌, ◌++◌, length, refl, sym, ap, ap₂, subst, ◌∙◌, append_assoc, arith}
use Rattle.std.specs.Prelude.{◌⊎◌, ℤ, pos, negsuc, ◌≤ℤ◌, ◌<ℤ◌, FitsSigned}
use Rattle.std.proofs.Common.{inl, inr}
use Rattle.std.proofs.lemmas.Int.{to_z-of_z, ints}
use Rattle.std.proofs.lemmas.List.{append-nil}
use mir.ValLaws.{of_z_fits}
use mir.Val.{bits}
use Rattle.std.specs.Int.{Width, w8, w16, w32, w64, w128, to_le_bytes, cast_unsigned, cast_signed, FitsUnsignedBits}
use Rattle.col_core.specs.declared.data_type.DataType.{DataType}
use Rattle.col_core.specs.declared.data_type.DataType.TheVariants.{Boolean, Int8, Int16, Int32, Int64, UInt8, UInt16, UInt32, UInt64, Int128, Decimal, Date, Time, Datetime, Duration, String, Binary}
use Rattle.col_core.specs.declared.leaf.Leaf.{Leaf}
use Rattle.col_core.specs.declared.leaf.Leaf.TheVariants as leaves
use Rattle.col_core.specs.declared.schema.Field.{Field}
use Rattle.col_core.specs.Physical.{physical_of}
use Rattle.col_core.specs.Values.{Fits, IsWholeOf, AreBytesOf}
use Rattle.col_core.specs.Tables.{Row, FitsSchema}
use Rattle.row_code.specs.Spelling.{width_of, truth_byte, spelling, row_spelling, IsShort, AreShort, IsRowOf, Spells, AreApart}
use Rattle.row_code.proofs.Numbers.{cut, numbers_cut}

-- the whole numbers of a type are the signed ones of its width, or the unsigned ones, or none
pub Wholes : DataType → Type 0
Wholes t = ((z : ℤ) → IsWholeOf t z → FitsSigned (width_of (physical_of t)) z)
    ⊎ (((z : ℤ) → IsWholeOf t z → FitsUnsignedBits (bits (width_of (physical_of t))) z) ⊎ ((z : ℤ) → IsWholeOf t z → ⊥))

pub wholes : (t : DataType) → Wholes t
unfolding Wholes
wholes Boolean = inr (inr (λ z h. h))
wholes Int8 = inl (λ z h. h)
wholes Int16 = inl (λ z h. h)
wholes Int32 = inl (λ z h. h)
wholes Int64 = inl (λ z h. h)
wholes UInt8 = inr (inl (λ z h. h))
wholes UInt16 = inr (inl (λ z h. h))
wholes UInt32 = inr (inl (λ z h. h))
wholes UInt64 = inr (inl (λ z h. h))
wholes Int128 = inl (λ z h. h)
wholes (Decimal p s) = inl (λ z h. h)
wholes Date = inl (λ z h. h)
wholes Time = inl (λ z h. h)
wholes (Datetime u) = inl (λ z h. h)
wholes (Duration u) = inl (λ z h. h)
wholes String = inr (inr (λ z h. h))
wholes Binary = inr (inr (λ z h. h))

-- a type of bytes has no whole numbers
no_whole : (t : DataType) (z : ℤ) (b : List ℕ) → IsWholeOf t z → AreBytesOf t b → ⊥
no_whole Boolean z b p q = p
no_whole Int8 z b p q = q
no_whole Int16 z b p q = q
no_whole Int32 z b p q = q
no_whole Int64 z b p q = q
no_whole UInt8 z b p q = q
no_whole UInt16 z b p q = q
no_whole UInt32 z b p q = q
no_whole UInt64 z b p q = q
no_whole Int128 z b p q = q
no_whole (Decimal d s) z b p q = q
no_whole Date z b p q = q
no_whole Time z b p q = q
no_whole (Datetime u) z b p q = q
no_whole (Duration u) z b p q = q
no_whole String z b p q = p
no_whole Binary z b p q = p

-- the type of truth values has none of these
truth_no_whole : (t : DataType) (z : ℤ) → t ≡ Boolean → IsWholeOf t z → ⊥
truth_no_whole t z e p = let P : DataType → Type 0 = λ t. IsWholeOf t z in subst P e p

truth_no_bytes : (t : DataType) (b : List ℕ) → t ≡ Boolean → AreBytesOf t b → ⊥
truth_no_bytes t b e p = let P : DataType → Type 0 = λ t. AreBytesOf t b in subst P e p

one_less : {a b : List ℕ} → 0 ∷ a ≡ 1 ∷ b → ⊥
one_less {a} {b} e = let h : ◌≡◌ {A = ℕ} 0 1 = cc in omega arith

tails : {x y : ℕ} {a b : List ℕ} → x ∷ a ≡ y ∷ b → a ≡ b
tails e = cc

heads : {x y : ℕ} {a b : List ℕ} → x ∷ a ≡ y ∷ b → x ≡ y
heads e = cc

truth_same : (b c : Bool) → truth_byte b ≡ truth_byte c → b ≡ c
truth_same true true e = refl
truth_same true false e = absurd (omega arith)
truth_same false true e = absurd (omega arith)
truth_same false false e = refl

-- a number in range is below the power, and its bytes tell it
unsigned_below : (w : Width) (z : ℤ) → FitsUnsignedBits (bits w) z → cast_unsigned w z < 2 ^ bits w
unsigned_below w (pos n) p = p
unsigned_below w (negsuc n) p = absurd p

unsigned_same : (w : Width) (z y : ℤ) → FitsUnsignedBits (bits w) z → FitsUnsignedBits (bits w) y → cast_unsigned w z ≡ cast_unsigned w y → z ≡ y
unsigned_same w (pos n) (pos m) p q e = ap pos e
unsigned_same w (negsuc n) y p q e = absurd p
unsigned_same w (pos n) (negsuc m) p q e = absurd q

wholes_cut : (t : DataType) (z y : ℤ) (r s : List ℕ) → IsWholeOf t z → IsWholeOf t y
    → to_le_bytes (width_of (physical_of t)) (cast_unsigned (width_of (physical_of t)) z) ++ r ≡ to_le_bytes (width_of (physical_of t)) (cast_unsigned (width_of (physical_of t)) y) ++ s
    → (z ≡ y) × (r ≡ s)
unfolding Wholes
wholes_cut t z y r s p q e = elim (wholes t) [
  | inl signed ↦
      let w : Width = width_of (physical_of t) in
      let both = numbers_cut w (cast_unsigned w z) (cast_unsigned w y) r s (of_z_fits w z (signed z p)).fits (of_z_fits w y (signed y q)).fits e in
      (sym (to_z-of_z w z (signed z p)) ∙ ap (cast_signed w) both.0 ∙ to_z-of_z w y (signed y q), both.1)
  | inr other ↦ elim other [
    | inl unsigned ↦
        let w : Width = width_of (physical_of t) in
        let both = numbers_cut w (cast_unsigned w z) (cast_unsigned w y) r s (unsigned_below w z (unsigned z p)) (unsigned_below w y (unsigned y q)) e in
        (unsigned_same w z y (unsigned z p) (unsigned y q) both.0, both.1)
    | inr none ↦ absurd (none z p)
  ]
]

pub apart : (t : DataType) (x y : Leaf) (r s : List ℕ) → Fits t x → IsShort x → Fits t y → IsShort y → spelling t x ++ r ≡ spelling t y ++ s → (x ≡ y) × (r ≡ s)
apart t leaves.Null leaves.Null r s p m q n e = (refl, tails e)
apart t leaves.Null (leaves.Bool c) r s p m q n e = absurd (one_less e)
apart t leaves.Null (leaves.Whole y) r s p m q n e = absurd (one_less e)
apart t leaves.Null (leaves.Bytes c) r s p m q n e = absurd (one_less e)
apart t (leaves.Bool b) leaves.Null r s p m q n e = absurd (one_less (sym e))
apart t (leaves.Bool b) (leaves.Bool c) r s p m q n e = (ap (λ (b : Bool). leaves.Bool b) (truth_same b c (heads (tails e))), tails (tails e))
apart t (leaves.Bool b) (leaves.Whole y) r s p m q n e = absurd (truth_no_whole t y p q)
apart t (leaves.Bool b) (leaves.Bytes c) r s p m q n e = absurd (truth_no_bytes t c p q)
apart t (leaves.Whole z) leaves.Null r s p m q n e = absurd (one_less (sym e))
apart t (leaves.Whole z) (leaves.Bool c) r s p m q n e = absurd (truth_no_whole t z q p)
apart t (leaves.Whole z) (leaves.Whole y) r s p m q n e =
    let both = wholes_cut t z y r s p q (tails e) in (ap (λ (z : ℤ). leaves.Whole z) both.0, both.1)
apart t (leaves.Whole z) (leaves.Bytes c) r s p m q n e = absurd (no_whole t z c p q)
apart t (leaves.Bytes b) leaves.Null r s p m q n e = absurd (one_less (sym e))
apart t (leaves.Bytes b) (leaves.Bool c) r s p m q n e = absurd (truth_no_bytes t b q p)
apart t (leaves.Bytes b) (leaves.Whole y) r s p m q n e = absurd (no_whole t y b q p)
apart t (leaves.Bytes b) (leaves.Bytes c) r s p m q n e =
    let more = sym (append_assoc (to_le_bytes w64 (length b)) b r) ∙ tails e ∙ append_assoc (to_le_bytes w64 (length c)) c s in
    let long = numbers_cut w64 (length b) (length c) (b ++ r) (c ++ s) m n more in
    let both = cut b c r s long.0 long.1 in
    (ap (λ (b : List ℕ). leaves.Bytes b) both.0, both.1)

rows_apart : (schema : List Field) (xs ys : Row) (r s : List ℕ)
    → FitsSchema schema xs → AreShort xs → FitsSchema schema ys → AreShort ys
    → row_spelling schema xs ++ r ≡ row_spelling schema ys ++ s → (xs ≡ ys) × (r ≡ s)
rows_apart [] [] [] r s p m q n e = (refl, e)
rows_apart (f ∷ fs) (x ∷ xs) (y ∷ ys) r s p m q n e =
    let more : spelling f.dtype x ++ (row_spelling fs xs ++ r) ≡ spelling f.dtype y ++ (row_spelling fs ys ++ s) = sym (append_assoc (spelling f.dtype x) (row_spelling fs xs) r) ∙ e ∙ append_assoc (spelling f.dtype y) (row_spelling fs ys) s in
    let here = apart f.dtype x y (row_spelling fs xs ++ r) (row_spelling fs ys ++ s) p.0 m.0 q.0 n.0 more in
    let rest = rows_apart fs xs ys r s p.1 m.1 q.1 n.1 here.1 in
    (ap₂ (λ (h : Leaf) (t : Row). h ∷ t) here.0 rest.0, rest.1)
rows_apart [] (x ∷ xs) ys r s p m q n e = absurd p
rows_apart [] [] (y ∷ ys) r s p m q n e = absurd q
rows_apart (f ∷ fs) [] ys r s p m q n e = absurd p
rows_apart (f ∷ fs) (x ∷ xs) [] r s p m q n e = absurd q

pub spellings_apart : (schema : List Field) → AreApart schema
spellings_apart schema xs ys a b r s p q e =
    rows_apart schema xs ys r s p.of.fits p.of.short q.of.fits q.of.short
    (ap (λ (a : List ℕ). a ++ r) (sym p.same) ∙ e ∙ ap (λ (b : List ℕ). b ++ s) q.same)

-- the same bytes are those of the same row
pub same_rows : (schema : List Field) (x y : Row) → IsRowOf schema x → IsRowOf schema y → row_spelling schema x ≡ row_spelling schema y → x ≡ y
same_rows schema x y p q e = (rows_apart schema x y [] [] p.fits p.short q.fits q.short (ap (λ (b : List ℕ). b ++ []) e)).0

-- the bytes of no row begin those of another
pub no_front : (schema : List Field) (x y : Row) (rest : List ℕ) → IsRowOf schema x → IsRowOf schema y → row_spelling schema x ++ rest ≡ row_spelling schema y → rest ≡ []
no_front schema x y rest p q e = (rows_apart schema x y rest [] p.fits p.short q.fits q.short (e ∙ sym (append-nil (row_spelling schema y)))).1
