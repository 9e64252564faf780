-- To wrap on the way changes nothing.
use Rattle.std.proofs.Common.{◌≡◌, ℕ, ℤ, pos, negsuc, ◌+ℤ◌, ◌<◌, ◌%◌, ◌^◌, unsigned_abs, FitsSigned, zero-add, refl, sym, ap, ◌∙◌, arith}
use Rattle.std.proofs.Math.IntN.{+ℤ_comm, +ℤ_idl, +ℤ_idr}
use Rattle.std.specs.Int.{int_wrap, int_rem_euclid, cast_unsigned, cast_signed, Width, w8, w16, w32, w64, w128}
use Rattle.std.proofs.lemmas.Int.{int_wrap-add_left, int_wrap-add_same, wrapping_add_onto, to_z_pos, of_z-to_z, int_wrap_fits, SFits-int_wrap}
use mir.Val.{bits, hbits}
use Rattle.std.proofs.lemmas.Nat.{pow_pos}
use Rattle.num_traits.specs.Laws.{wrap_signed, wrap_unsigned}
use Rattle.col_core.specs.declared.leaf.Leaf.{Leaf}
use Rattle.col_core.specs.declared.data_type.DataType.{DataType}
use Rattle.col_core.specs.declared.data_type.DataType.TheVariants.{Boolean, Int8, Int16, Int32, Int64, UInt8, UInt16, UInt32, UInt64, Int128, Decimal, Date, Time, Datetime, Duration, String, Binary}
use Rattle.reduce_model.specs.Folds.{wrap_in, sum_leaf}
use Rattle.reduce_states.specs.States.{amount}

-- ---- by width

wrap_signed-is : (w : Width) (z : ℤ) → wrap_signed w z ≡ int_wrap w z
unfolding int_wrap
wrap_signed-is w8 z = refl
wrap_signed-is w16 z = refl
wrap_signed-is w32 z = refl
wrap_signed-is w64 z = refl
wrap_signed-is w128 z = refl

pub wrap_signed-add_left : (w : Width) (a b : ℤ) → wrap_signed w (wrap_signed w a +ℤ b) ≡ wrap_signed w (a +ℤ b)
wrap_signed-add_left w a b =
    wrap_signed-is w (wrap_signed w a +ℤ b) ∙ ap (λ (z : ℤ). int_wrap w (z +ℤ b)) (wrap_signed-is w a)
    ∙ int_wrap-add_left w a b ∙ sym (wrap_signed-is w (a +ℤ b))

wrap-pos : (w : Width) (s : ℤ) → FitsSigned w s → int_wrap w (pos (cast_unsigned w s)) ≡ s
unfolding int_wrap
wrap-pos w s f =
    ap (λ (n : ℕ). cast_signed w (n % 2 ^ bits w)) (sym (zero-add (cast_unsigned w s)))
    ∙ wrapping_add_onto w 0 s (pow_pos (bits w)) f
    ∙ ap (int_wrap w) (ap (λ (z : ℤ). z +ℤ s) (to_z_pos w 0 (pow_pos (hbits w))) ∙ +ℤ_idl s)
    ∙ int_wrap_fits w s f

rem-is : (z : ℤ) (m : ℕ) → 0 < m → (int_rem_euclid z (pos m) ≡ pos (unsigned_abs (int_rem_euclid z (pos m)))) × (unsigned_abs (int_rem_euclid z (pos m)) < m)
rem-is (pos n) m h = (refl, omega arith)
rem-is (negsuc n) m h = (refl, omega arith)

-- what is left in the unsigned type are the bits of what is left in the signed type of its width
wrap_unsigned-is : (w : Width) (z : ℤ) → wrap_unsigned (bits w) z ≡ pos (cast_unsigned w (int_wrap w z))
unfolding int_wrap
wrap_unsigned-is w z =
    let rem = rem-is z (2 ^ bits w) (pow_pos (bits w)) in
    rem.0 ∙ ap pos (sym (of_z-to_z w (unsigned_abs (int_rem_euclid z (pos (2 ^ bits w)))) rem.1))

pub wrap_unsigned-add_left : (w : Width) (a b : ℤ) → wrap_unsigned (bits w) (wrap_unsigned (bits w) a +ℤ b) ≡ wrap_unsigned (bits w) (a +ℤ b)
wrap_unsigned-add_left w a b =
    let same : int_wrap w (wrap_unsigned (bits w) a) ≡ int_wrap w a = ap (int_wrap w) (wrap_unsigned-is w a) ∙ wrap-pos w (int_wrap w a) (SFits-int_wrap w a) in
    wrap_unsigned-is w (wrap_unsigned (bits w) a +ℤ b)
    ∙ ap (λ (z : ℤ). pos (cast_unsigned w z)) (int_wrap-add_same w (wrap_unsigned (bits w) a) a b same)
    ∙ sym (wrap_unsigned-is w (a +ℤ b))

-- ---- by column type

pub wrap_in-add_left : (t : DataType) (a b : ℤ) → wrap_in t (wrap_in t a +ℤ b) ≡ wrap_in t (a +ℤ b)
wrap_in-add_left Boolean a b = wrap_signed-add_left w64 a b
wrap_in-add_left Int8 a b = wrap_signed-add_left w64 a b
wrap_in-add_left Int16 a b = wrap_signed-add_left w64 a b
wrap_in-add_left Int32 a b = wrap_signed-add_left w32 a b
wrap_in-add_left Int64 a b = wrap_signed-add_left w64 a b
wrap_in-add_left UInt8 a b = wrap_signed-add_left w64 a b
wrap_in-add_left UInt16 a b = wrap_signed-add_left w64 a b
wrap_in-add_left UInt32 a b = wrap_unsigned-add_left w32 a b
wrap_in-add_left UInt64 a b = wrap_unsigned-add_left w64 a b
wrap_in-add_left Int128 a b = wrap_signed-add_left w64 a b
wrap_in-add_left (Decimal p s) a b = wrap_signed-add_left w128 a b
wrap_in-add_left Date a b = wrap_signed-add_left w64 a b
wrap_in-add_left Time a b = wrap_signed-add_left w64 a b
wrap_in-add_left (Datetime u) a b = wrap_signed-add_left w64 a b
wrap_in-add_left (Duration u) a b = wrap_signed-add_left w64 a b
wrap_in-add_left String a b = wrap_signed-add_left w64 a b
wrap_in-add_left Binary a b = wrap_signed-add_left w64 a b

pub wrap_in-add_right : (t : DataType) (a b : ℤ) → wrap_in t (a +ℤ wrap_in t b) ≡ wrap_in t (a +ℤ b)
wrap_in-add_right t a b = ap (wrap_in t) (+ℤ_comm a (wrap_in t b)) ∙ wrap_in-add_left t b a ∙ ap (wrap_in t) (+ℤ_comm b a)

pub wrap_in-wrap_in : (t : DataType) (a : ℤ) → wrap_in t (wrap_in t a) ≡ wrap_in t a
wrap_in-wrap_in t a = ap (wrap_in t) (sym (+ℤ_idr (wrap_in t a))) ∙ wrap_in-add_left t a (pos 0) ∙ ap (wrap_in t) (+ℤ_idr a)

-- a sum that is no value adds nothing, and is none with anything added
amount-sum_leaf : (t : DataType) (a b : ℤ) → sum_leaf t (wrap_in t (amount (sum_leaf t a) +ℤ b)) ≡ sum_leaf t (wrap_in t (a +ℤ b))
amount-sum_leaf Boolean a b = refl
amount-sum_leaf Int8 a b = refl
amount-sum_leaf Int16 a b = refl
amount-sum_leaf Int32 a b = refl
amount-sum_leaf Int64 a b = refl
amount-sum_leaf UInt8 a b = refl
amount-sum_leaf UInt16 a b = refl
amount-sum_leaf UInt32 a b = refl
amount-sum_leaf UInt64 a b = refl
amount-sum_leaf Int128 a b = refl
amount-sum_leaf (Decimal p s) a b = refl
amount-sum_leaf Date a b = refl
amount-sum_leaf Time a b = refl
amount-sum_leaf (Datetime u) a b = refl
amount-sum_leaf (Duration u) a b = refl
amount-sum_leaf String a b = refl
amount-sum_leaf Binary a b = refl

-- a sum in the type that keeps it, as a value
abbrev pub summed : DataType → ℤ → Leaf
summed t z = sum_leaf t (wrap_in t z)

pub summed-add_left : (t : DataType) (a b : ℤ) → summed t (amount (summed t a) +ℤ b) ≡ summed t (a +ℤ b)
summed-add_left t a b = amount-sum_leaf t (wrap_in t a) b ∙ ap (sum_leaf t) (wrap_in-add_left t a b)

pub summed-add_right : (t : DataType) (a b : ℤ) → summed t (a +ℤ amount (summed t b)) ≡ summed t (a +ℤ b)
summed-add_right t a b = ap (summed t) (+ℤ_comm a (amount (summed t b))) ∙ summed-add_left t b a ∙ ap (summed t) (+ℤ_comm b a)

pub sum_leaf-add : (t : DataType) (a b : ℤ) → summed t (amount (sum_leaf t a) +ℤ b) ≡ sum_leaf t (wrap_in t (a +ℤ b))
sum_leaf-add t a b = amount-sum_leaf t a b
