-- What bytes begin with.
use Rattle.std.proofs.Common.{◌≡◌, ℕ, ◌+◌, ◌<◌, ◌≤◌, ◌^◌, Bool, List, [], ◌∷◌, ◌++◌, length, take, drop, get_or, suc, refl, sym, ap, ap₂, subst, ◌∙◌, append_assoc, add-one, arith}
use Rattle.std.specs.Prelude.{◌⊎◌, ℤ, pos, FitsSigned}
use Rattle.std.proofs.Common.{inl, inr}
use Rattle.std.specs.List.{All, IsSplitAt}
use Rattle.std.proofs.Math.Seq.{drop-cons}
use Rattle.std.specs.Int.{Width, w8, w16, w32, w64, w128, byte_len, to_le_bytes, from_le_bytes, cast_signed, cast_unsigned, FitsUnsignedBits}
use Rattle.std.proofs.lemmas.List.{length-append, length-take-le, take-append-drop, append-nil}
use Rattle.std.proofs.lemmas.List.Elements.{All-take, All-cons}
use mir.Val.{bits, Fits as MachineFits}
use Rattle.col_core.specs.declared.data_type.DataType.{DataType}
use Rattle.col_core.specs.declared.data_type.DataType.TheVariants.{Boolean, Int8, Int16, Int32, Int64, UInt8, UInt16, UInt32, UInt64, Int128, Decimal, Date, Time, Datetime, Duration, String, Binary}
use Rattle.col_core.specs.declared.data_type.PhysicalType.{PhysicalType}
use Rattle.col_core.specs.declared.data_type.PhysicalType.TheVariants as kept
use Rattle.col_core.specs.declared.leaf.Leaf.{Leaf}
use Rattle.col_core.specs.declared.leaf.Leaf.TheVariants as leaves
use Rattle.col_core.specs.declared.schema.Field.{Field}
use Rattle.col_core.specs.Tables.{Row}
use Rattle.col_core.specs.Physical.{physical_of, IsKept}
use Rattle.col_core.specs.Values.{Fits, IsWholeOf, AreBytesOf}
use Rattle.row_code.specs.Spelling.{width_of, truth_byte, whole_bytes, spelling, row_spelling, IsShort, IsValueOf, IsRowOf, ValueInFront, HasValueInFront, RowInFront, IsSpelling}
use Rattle.row_code.proofs.Numbers.{length-to_le_bytes, signed_again, signed_fits, bytes_again, from_below}
use Rattle.row_code.proofs.Apart.{apart}

-- the kinds of types
pub boolean_kind : (t : DataType) → physical_of t ≡ kept.Boolean → t ≡ Boolean
boolean_kind Boolean e = refl
boolean_kind Int8 e = cc
boolean_kind Int16 e = cc
boolean_kind Int32 e = cc
boolean_kind Int64 e = cc
boolean_kind UInt8 e = cc
boolean_kind UInt16 e = cc
boolean_kind UInt32 e = cc
boolean_kind UInt64 e = cc
boolean_kind Int128 e = cc
boolean_kind (Decimal p s) e = cc
boolean_kind Date e = cc
boolean_kind Time e = cc
boolean_kind (Datetime u) e = cc
boolean_kind (Duration u) e = cc
boolean_kind String e = cc
boolean_kind Binary e = cc

pub bytes_kind : (t : DataType) (b : List ℕ) → AreBytesOf t b → physical_of t ≡ kept.Bytes
bytes_kind Boolean b h = absurd h
bytes_kind Int8 b h = absurd h
bytes_kind Int16 b h = absurd h
bytes_kind Int32 b h = absurd h
bytes_kind Int64 b h = absurd h
bytes_kind UInt8 b h = absurd h
bytes_kind UInt16 b h = absurd h
bytes_kind UInt32 b h = absurd h
bytes_kind UInt64 b h = absurd h
bytes_kind Int128 b h = absurd h
bytes_kind (Decimal p s) b h = absurd h
bytes_kind Date b h = absurd h
bytes_kind Time b h = absurd h
bytes_kind (Datetime u) b h = absurd h
bytes_kind (Duration u) b h = absurd h
bytes_kind String b h = refl
bytes_kind Binary b h = refl

pub kept_whole : (t : DataType) (z : ℤ) → IsWholeOf t z → IsKept (physical_of t) (leaves.Whole z)
kept_whole Boolean z h = absurd h
kept_whole Int8 z h = h
kept_whole Int16 z h = h
kept_whole Int32 z h = h
kept_whole Int64 z h = h
kept_whole UInt8 z h = h
kept_whole UInt16 z h = h
kept_whole UInt32 z h = h
kept_whole UInt64 z h = h
kept_whole Int128 z h = h
kept_whole (Decimal p s) z h = h
kept_whole Date z h = h
kept_whole Time z h = h
kept_whole (Datetime u) z h = h
kept_whole (Duration u) z h = h
kept_whole String z h = absurd h
kept_whole Binary z h = absurd h

pub whole_kept : (t : DataType) (z : ℤ) → IsKept (physical_of t) (leaves.Whole z) → IsWholeOf t z
whole_kept Boolean z h = absurd h
whole_kept Int8 z h = h
whole_kept Int16 z h = h
whole_kept Int32 z h = h
whole_kept Int64 z h = h
whole_kept UInt8 z h = h
whole_kept UInt16 z h = h
whole_kept UInt32 z h = h
whole_kept UInt64 z h = h
whole_kept Int128 z h = h
whole_kept (Decimal p s) z h = h
whole_kept Date z h = h
whole_kept Time z h = h
whole_kept (Datetime u) z h = h
whole_kept (Duration u) z h = h
whole_kept String z h = absurd h
whole_kept Binary z h = absurd h

-- a null begins with a zero, and any other value with a one
pub no_mark : (t : DataType) (v : Leaf) (rest bytes : List ℕ) → ((more : List ℕ) → bytes ≡ 0 ∷ more → ⊥) → ((more : List ℕ) → bytes ≡ 1 ∷ more → ⊥) → ValueInFront t v rest bytes → ⊥
no_mark t leaves.Null rest bytes zero one h = zero rest h.same
no_mark t (leaves.Bool b) rest bytes zero one h = one (truth_byte b ∷ rest) h.same
no_mark t (leaves.Whole z) rest bytes zero one h = one (whole_bytes (width_of (physical_of t)) z ++ rest) h.same
no_mark t (leaves.Bytes b) rest bytes zero one h = one ((to_le_bytes w64 (length b) ++ b) ++ rest) h.same

after_one : {a b : List ℕ} → 1 ∷ a ≡ 1 ∷ b → a ≡ b
after_one e = cc

not_null : {a b : List ℕ} → 1 ∷ a ≡ 0 ∷ b → ⊥
not_null {a} {b} e = let h : ◌≡◌ {A = ℕ} 1 0 = cc in omega arith

-- what follows a one, by the kind of the type
pub truth_after : (t : DataType) (v : Leaf) (rest bytes : List ℕ) → physical_of t ≡ kept.Boolean → ValueInFront t v rest (1 ∷ bytes) → (b : Bool) × (bytes ≡ truth_byte b ∷ rest)
truth_after t leaves.Null rest bytes k h = absurd (not_null h.same)
truth_after t (leaves.Bool b) rest bytes k h = (b, after_one h.same)
truth_after t (leaves.Whole z) rest bytes k h = let P : PhysicalType → Type 0 = λ p. IsKept p (leaves.Whole z) in absurd (subst P k (kept_whole t z h.of.fits))
truth_after t (leaves.Bytes b) rest bytes k h = let e : ◌≡◌ {A = PhysicalType} kept.Boolean kept.Bytes = sym k ∙ bytes_kind t b h.of.fits in cc

pub bytes_after : (t : DataType) (v : Leaf) (rest bytes : List ℕ) → physical_of t ≡ kept.Bytes → ValueInFront t v rest (1 ∷ bytes)
    → (b : List ℕ) × AreBytesOf t b × (length b < 2 ^ 64) × (bytes ≡ to_le_bytes w64 (length b) ++ (b ++ rest))
bytes_after t leaves.Null rest bytes k h = absurd (not_null h.same)
bytes_after t (leaves.Bool b) rest bytes k h = let e : ◌≡◌ {A = PhysicalType} kept.Boolean kept.Bytes = sym (ap physical_of h.of.fits) ∙ k in cc
bytes_after t (leaves.Whole z) rest bytes k h = let P : PhysicalType → Type 0 = λ p. IsKept p (leaves.Whole z) in absurd (subst P k (kept_whole t z h.of.fits))
bytes_after t (leaves.Bytes b) rest bytes k h = (b, h.of.fits, h.of.short, after_one h.same ∙ append_assoc (to_le_bytes w64 (length b)) b rest)

pub whole_after : (t : DataType) (v : Leaf) (rest bytes : List ℕ) → (physical_of t ≡ kept.Boolean → ⊥) → (physical_of t ≡ kept.Bytes → ⊥) → ValueInFront t v rest (1 ∷ bytes)
    → (z : ℤ) × IsKept (physical_of t) (leaves.Whole z) × (bytes ≡ whole_bytes (width_of (physical_of t)) z ++ rest)
whole_after t leaves.Null rest bytes no_truth no_bytes h = absurd (not_null h.same)
whole_after t (leaves.Bool b) rest bytes no_truth no_bytes h = absurd (no_truth (ap physical_of h.of.fits))
whole_after t (leaves.Whole z) rest bytes no_truth no_bytes h = (z, kept_whole t z h.of.fits, after_one h.same)
whole_after t (leaves.Bytes b) rest bytes no_truth no_bytes h = absurd (no_bytes (bytes_kind t b h.of.fits))

-- ---- numbers

-- the bytes of a slice are below 2 ^ 8
pub small_bytes : (bytes : List ℕ) → ((i : ℕ) → MachineFits w8 (get_or bytes i 0)) → All (λ b. b < 2 ^ 8) bytes
small_bytes [] h = λ k d l. absurd (omega arith)
small_bytes (b ∷ bs) h = All-cons (λ (b : ℕ). b < 2 ^ 8) b bs (h 0).fits (small_bytes bs (λ i. h (suc i)))

-- bytes that are cut after so many
pub record IsCutAt (n : ℕ) (bytes front rest : List ℕ) : Type 0 where
  pub front_is : front ≡ take n bytes
  pub rest_is : rest ≡ drop n bytes
  pub long : length rest + n ≡ length bytes

length_front : (n : ℕ) (bytes front rest : List ℕ) → IsCutAt n bytes front rest → length front ≡ n
length_front n bytes front rest cut = ap length cut.front_is ∙ length-take-le n bytes (let l = cut.long in omega arith)

whole_cut : (n : ℕ) (bytes front rest : List ℕ) → IsCutAt n bytes front rest → bytes ≡ front ++ rest
whole_cut n bytes front rest cut = sym (take-append-drop n bytes) ∙ ap₂ (λ (a b : List ℕ). a ++ b) (sym cut.front_is) (sym cut.rest_is)

small_front : (n : ℕ) (bytes front rest : List ℕ) → IsCutAt n bytes front rest → All (λ b. b < 2 ^ 8) bytes → All (λ b. b < 2 ^ 8) front
small_front n bytes front rest cut small = let Byte : ℕ → Type 0 = λ b. b < 2 ^ 8 in subst (All Byte) (sym cut.front_is) (All-take Byte n bytes small)

pub signed_front : (w : Width) (bytes front rest : List ℕ) → IsCutAt (byte_len w) bytes front rest → All (λ b. b < 2 ^ 8) bytes
    → FitsSigned w (cast_signed w (from_le_bytes w front)) × (bytes ≡ whole_bytes w (cast_signed w (from_le_bytes w front)) ++ rest)
signed_front w bytes front rest cut small =
    let long = length_front (byte_len w) bytes front rest cut in
    let few = small_front (byte_len w) bytes front rest cut small in
    (signed_fits w front long few, whole_cut (byte_len w) bytes front rest cut ∙ ap (λ (a : List ℕ). a ++ rest) (sym (signed_again w front long few)))

pub unsigned_front : (w : Width) (bytes front rest : List ℕ) → IsCutAt (byte_len w) bytes front rest → All (λ b. b < 2 ^ 8) bytes
    → FitsUnsignedBits (bits w) (pos (from_le_bytes w front)) × (bytes ≡ whole_bytes w (pos (from_le_bytes w front)) ++ rest)
unsigned_front w bytes front rest cut small =
    let long = length_front (byte_len w) bytes front rest cut in
    let few = small_front (byte_len w) bytes front rest cut small in
    (from_below w front long few, whole_cut (byte_len w) bytes front rest cut ∙ ap (λ (a : List ℕ). a ++ rest) (sym (bytes_again w front long few)))

-- a number that is read, as it is kept in 128 bits
pub read_signed : (w : Width) (k : PhysicalType) (bytes front rest : List ℕ) (r v : ℤ) → width_of k ≡ w → ((z : ℤ) → FitsSigned w z → IsKept k (leaves.Whole z)) → ((z : ℤ) → FitsSigned w z → FitsSigned w128 z)
    → r ≡ cast_signed w (from_le_bytes w front) → (FitsSigned w r → FitsSigned w128 r → v ≡ r) → IsCutAt (byte_len w) bytes front rest → All (λ b. b < 2 ^ 8) bytes
    → IsKept k (leaves.Whole v) × (bytes ≡ whole_bytes (width_of k) v ++ rest)
read_signed w k bytes front rest r v of_kind keeps widens is same cut small =
    let both = signed_front w bytes front rest cut small in
    let fits : FitsSigned w r = subst (FitsSigned w) (sym is) both.0 in
    let e : v ≡ r = same fits (widens r fits) in (
      subst (λ (z : ℤ). IsKept k (leaves.Whole z)) (sym e) (keeps r fits),
      both.1 ∙ ap (λ (z : ℤ). whole_bytes w z ++ rest) (sym (e ∙ is)) ∙ ap (λ (u : Width). whole_bytes u v ++ rest) (sym of_kind),
    )

pub read_unsigned : (w : Width) (k : PhysicalType) (bytes front rest : List ℕ) (r : ℕ) (v : ℤ) → width_of k ≡ w → ((z : ℤ) → FitsUnsignedBits (bits w) z → IsKept k (leaves.Whole z))
    → r ≡ from_le_bytes w front → (r < 2 ^ bits w → v ≡ pos r) → IsCutAt (byte_len w) bytes front rest → All (λ b. b < 2 ^ 8) bytes
    → IsKept k (leaves.Whole v) × (bytes ≡ whole_bytes (width_of k) v ++ rest)
read_unsigned w k bytes front rest r v of_kind keeps is same cut small =
    let both = unsigned_front w bytes front rest cut small in
    let fits : FitsUnsignedBits (bits w) (pos r) = subst (λ (n : ℕ). FitsUnsignedBits (bits w) (pos n)) (sym is) both.0 in
    let e : v ≡ pos r = same fits in (
      subst (λ (z : ℤ). IsKept k (leaves.Whole z)) (sym e) (keeps (pos r) fits),
      both.1 ∙ ap (λ (z : ℤ). whole_bytes w z ++ rest) (sym (e ∙ ap pos is)) ∙ ap (λ (u : Width). whole_bytes u v ++ rest) (sym of_kind),
    )

pub wide_16 : (z : ℤ) → FitsSigned w16 z → FitsSigned w128 z
wide_16 z fits = record { sfits = omega (arith, fits.sfits) }

pub wide_32 : (z : ℤ) → FitsSigned w32 z → FitsSigned w128 z
wide_32 z fits = record { sfits = omega (arith, fits.sfits) }

pub wide_64 : (z : ℤ) → FitsSigned w64 z → FitsSigned w128 z
wide_64 z fits = record { sfits = omega (arith, fits.sfits) }

-- a text or bytes, after their number
pub bytes_read : (bytes front after value rest : List ℕ) (len : ℕ) → IsCutAt 8 bytes front after → All (λ b. b < 2 ^ 8) bytes → len ≡ from_le_bytes w64 front → IsSplitAt after len value rest
    → (length value < 2 ^ 64) × (bytes ≡ to_le_bytes w64 (length value) ++ (value ++ rest))
bytes_read bytes front after value rest len cut small is split =
    let long : length front ≡ byte_len w64 = length_front 8 bytes front after cut in
    let few = small_front 8 bytes front after cut small in
    let below : len < 2 ^ 64 = subst (λ (n : ℕ). n < 2 ^ 64) (sym is) (from_below w64 front long few) in
    let same : front ≡ to_le_bytes w64 (length value) = sym (bytes_again w64 front long few) ∙ ap (to_le_bytes w64) (sym is ∙ sym split.3) in
    let whole : after ≡ value ++ rest = sym (take-append-drop len after) ∙ ap₂ (λ (a b : List ℕ). a ++ b) (sym split.1) (sym split.2) in
    (subst (λ (n : ℕ). n < 2 ^ 64) (sym split.3) below, whole_cut 8 bytes front after cut ∙ ap₂ (λ (a b : List ℕ). a ++ b) same whole)

-- the fields that are left, at a place
pub drop_field : (fields : List Field) (k : ℕ) (f : Field) → f ≡ get_or fields k f → k < length fields → drop k fields ≡ f ∷ drop (k + 1) fields
drop_field fields k f is below = rw (add-one k) (drop-cons fields k f below ∙ ap (λ (x : Field). x ∷ drop (suc k) fields) (sym is))

-- the bytes of a number are no fewer than those of its width
pub whole_long : (w : Width) (z : ℤ) (rest bytes : List ℕ) → bytes ≡ whole_bytes w z ++ rest → byte_len w ≤ length bytes
whole_long w z rest bytes e = omega (arith, ap length e, length-append (whole_bytes w z) rest, length-to_le_bytes w (cast_unsigned w z))

-- ---- rows

-- bytes begin with a row of some fields, and a rest follows
pub record RowLeaves (fields : List Field) (bytes rest : List ℕ) : Type 0 where
  pub row : Row
  pub of : IsRowOf fields row
  pub same : bytes ≡ row_spelling fields row ++ rest

-- two values in front of the same bytes are the same
pub same_value : (t : DataType) (x y : Leaf) (r s bytes : List ℕ) → ValueInFront t x r bytes → ValueInFront t y s bytes → (x ≡ y) × (r ≡ s)
same_value t x y r s bytes p q = apart t x y r s p.of.fits p.of.short q.of.fits q.of.short (sym p.same ∙ q.same)

pub value_of_row : (f : Field) (fs : List Field) (bytes rest : List ℕ) (leaves : RowLeaves (f ∷ fs) bytes rest) → HasValueInFront f.dtype bytes
value_of_row f fs bytes rest leaves = first f fs bytes rest leaves.row leaves.of leaves.same
  where
    first : (f : Field) (fs : List Field) (bytes rest : List ℕ) (row : Row) → IsRowOf (f ∷ fs) row → bytes ≡ row_spelling (f ∷ fs) row ++ rest → HasValueInFront f.dtype bytes
    first f fs bytes rest [] of same = absurd of.fits
    first f fs bytes rest (x ∷ xs) of same = (x, row_spelling fs xs ++ rest, record { of = record { fits = of.fits.0; short = of.short.0 }; same = same ∙ append_assoc (spelling f.dtype x) (row_spelling fs xs) rest })

-- a value on, and back
pub row_on : (f : Field) (fs : List Field) (v : Leaf) (bytes after rest : List ℕ) → ValueInFront f.dtype v after bytes → RowLeaves (f ∷ fs) bytes rest → RowLeaves fs after rest
row_on f fs v bytes after rest found leaves = on f fs v bytes after rest found leaves.row leaves.of leaves.same
  where
    on : (f : Field) (fs : List Field) (v : Leaf) (bytes after rest : List ℕ) → ValueInFront f.dtype v after bytes → (row : Row) → IsRowOf (f ∷ fs) row → bytes ≡ row_spelling (f ∷ fs) row ++ rest → RowLeaves fs after rest
    on f fs v bytes after rest found [] of same = absurd of.fits
    on f fs v bytes after rest found (x ∷ xs) of same =
        let here : ValueInFront f.dtype x (row_spelling fs xs ++ rest) bytes = record { of = record { fits = of.fits.0; short = of.short.0 }; same = same ∙ append_assoc (spelling f.dtype x) (row_spelling fs xs) rest } in
        record { row = xs; of = record { fits = of.fits.1; short = of.short.1 }; same = (same_value f.dtype v x after (row_spelling fs xs ++ rest) bytes found here).1 }

pub row_back : (f : Field) (fs : List Field) (v : Leaf) (bytes after rest : List ℕ) → ValueInFront f.dtype v after bytes → RowLeaves fs after rest → RowLeaves (f ∷ fs) bytes rest
row_back f fs v bytes after rest found leaves = record {
  row = v ∷ leaves.row;
  of = record { fits = (found.of.fits, leaves.of.fits); short = (found.of.short, leaves.of.short) };
  same = found.same ∙ ap (λ (b : List ℕ). spelling f.dtype v ++ b) leaves.same ∙ sym (append_assoc (spelling f.dtype v) (row_spelling fs leaves.row) rest);
}

-- no field leaves all
pub row_none : (bytes rest : List ℕ) → RowLeaves [] bytes rest → bytes ≡ rest
row_none bytes rest leaves = none bytes rest leaves.row leaves.of leaves.same
  where
    none : (bytes rest : List ℕ) (row : Row) → IsRowOf [] row → bytes ≡ row_spelling [] row ++ rest → bytes ≡ rest
    none bytes rest [] of same = same
    none bytes rest (x ∷ xs) of same = absurd of.fits

pub row_all : (bytes : List ℕ) → RowLeaves [] bytes bytes
row_all bytes = record { row = []; of = record { fits = tt; short = tt }; same = refl }

-- what is left of a row, and its number of bytes
pub front_of_leaves : (fields : List Field) (bytes rest : List ℕ) (n : ℕ) → RowLeaves fields bytes rest → n + length rest ≡ length bytes → RowInFront fields n bytes
front_of_leaves fields bytes rest n leaves long = record {
  row = leaves.row;
  front = row_spelling fields leaves.row;
  rest = rest;
  spells = record { of = leaves.of; same = refl };
  cut = leaves.same;
  long = omega (arith, ap length leaves.same, length-append (row_spelling fields leaves.row) rest);
}

pub leaves_of_front : (fields : List Field) (bytes : List ℕ) (n : ℕ) (front : RowInFront fields n bytes) → RowLeaves fields bytes front.rest × (n + length front.rest ≡ length bytes)
leaves_of_front fields bytes n front = (
  record { row = front.row; of = front.spells.of; same = front.cut ∙ ap (λ (b : List ℕ). b ++ front.rest) front.spells.same },
  omega (arith, front.long, ap length front.cut, length-append front.front front.rest),
)

-- a whole front is a spelling
pub spelling_of_front : (fields : List Field) (bytes : List ℕ) → RowInFront fields (length bytes) bytes → IsSpelling fields bytes
spelling_of_front fields bytes front =
    let none : length front.rest ≡ 0 = omega (arith, front.long, ap length front.cut, length-append front.front front.rest) in
    let rest : front.rest ≡ [] = nothing front.rest none in
    (front.row, record { of = front.spells.of; same = front.cut ∙ ap (λ (r : List ℕ). front.front ++ r) rest ∙ append-nil front.front ∙ front.spells.same })
  where
    nothing : (xs : List ℕ) → length xs ≡ 0 → xs ≡ []
    nothing [] e = refl
    nothing (x ∷ xs) e = absurd (omega arith)
