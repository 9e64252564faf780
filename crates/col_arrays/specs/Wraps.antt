-- A sum that wraps on the way.
use Rattle.std.specs.Prelude.{◌≡◌, ℕ, ℤ, pos, negsuc, ◌+◌, ◌-◌, ◌*◌, ◌/◌, ◌%◌, ◌^◌, ◌<◌, ◌+ℤ◌, refl}
use Rattle.std.specs.Int.{Width, w8, w16, w32, w64, w128, int_wrap, int_rem_euclid}
use Rattle.std.proofs.Common.{sym, ap, ◌∙◌, arith, add-mul, mul-add, mul-one}
use Rattle.std.proofs.Math.Nat.{mod-add-div'}
use Rattle.std.proofs.lemmas.Nat.{pow_pos}
use Rattle.std.proofs.lemmas.Int.{ints, int_rem_euclid_is, int_wrap-add_left}
use Rattle.num_traits.specs.Laws.{wrap_unsigned, wrap_signed}

-- numbers that differ by a multiple of n
congruent : (n : ℕ) (x y : ℤ) (i j m : ℕ) → 0 < n → x +ℤ pos (i * n) ≡ pos m → y +ℤ pos (j * n) ≡ pos m → int_rem_euclid x (pos n) ≡ int_rem_euclid y (pos n)
congruent n x y i j m p e f = int_rem_euclid_is x (pos n) n i m p refl e ∙ sym (int_rem_euclid_is y (pos n) n j m p refl f)

mul_least : (t n : ℕ) → 0 < n → t * n ≡ t + t * (n - 1)
mul_least t n p = let whole : n ≡ 1 + (n - 1) = omega arith in ap (λ m. t * m) whole ∙ mul-add t 1 (n - 1) ∙ ap (λ m. m + t * (n - 1)) (mul-one t)

-- a multiple of n that is above -y
lift : (n : ℕ) (y : ℤ) → 0 < n → (t : ℕ) × ((u : ℕ) × (y +ℤ pos (t * n) ≡ pos u))
lift n (pos b) p = (0, (b, omega (arith, ints)))
lift n (negsuc b) p = (b + 1, ((b + 1) * (n - 1), omega (arith, ints, mul_least (b + 1) n p)))

rem-add : (n : ℕ) (x y : ℤ) → 0 < n → int_rem_euclid (int_rem_euclid x (pos n) +ℤ y) (pos n) ≡ int_rem_euclid (x +ℤ y) (pos n)
rem-add n (pos a) y p =
    let l = lift n y p in
    let t = l.0 in
    let e = l.1.1 in
    let whole : a % n + a / n * n ≡ a = mod-add-div' a n in
    congruent n (pos (a % n) +ℤ y) (pos a +ℤ y) (a / n + t) t (a + l.1.0) p
    (omega (arith, ints, add-mul (a / n) t n))
    (omega (arith, ints))
rem-add n (negsuc a) y p =
    let l = lift n y p in
    let t = l.0 in
    let e = l.1.1 in
    let whole : a % n + a / n * n ≡ a = mod-add-div' a n in
    congruent n (pos (n - 1 - a % n) +ℤ y) (negsuc a +ℤ y) t (a / n + 1 + t) (n - 1 - a % n + l.1.0) p
    (omega (arith, ints))
    (omega (arith, ints, add-mul (a / n + 1) t n, add-mul (a / n) 1 n))

-- to wrap a term changes nothing in the wrapped sum
pub unsigned-wrap_add : (k : ℕ) (x y : ℤ) → wrap_unsigned k (wrap_unsigned k x +ℤ y) ≡ wrap_unsigned k (x +ℤ y)
unsigned-wrap_add k x y = rem-add (2 ^ k) x y (pow_pos k)

int_wrap_is : (w : Width) (x : ℤ) → int_wrap w x ≡ wrap_signed w x
unfolding int_wrap
int_wrap_is w8 x = refl
int_wrap_is w16 x = refl
int_wrap_is w32 x = refl
int_wrap_is w64 x = refl
int_wrap_is w128 x = refl

pub signed-wrap_add : (w : Width) (x y : ℤ) → wrap_signed w (wrap_signed w x +ℤ y) ≡ wrap_signed w (x +ℤ y)
signed-wrap_add w x y =
    sym (int_wrap_is w (wrap_signed w x +ℤ y)) ∙ ap (λ z. int_wrap w (z +ℤ y)) (sym (int_wrap_is w x))
    ∙ int_wrap-add_left w x y ∙ int_wrap_is w (x +ℤ y)
