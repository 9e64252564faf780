-- Numbers and their bytes.
use Rattle.std.proofs.Common.{◌≡◌, ℕ, zero, suc, ◌+◌, ◌-◌, ◌*◌, ◌/◌, ◌%◌, ◌^◌, ◌<◌, ◌≤◌, List, [], ◌∷◌, ◌++◌, length, take, get_or, inl, inr, refl, sym, ap, ap₂, ◌∙◌, arith}
use Rattle.std.proofs.Math.Nat.{pow-suc, div-div-eq-div-mul, mul_assoc, mul_comm}
use Rattle.std.specs.Prelude.{◌⊎◌, ℤ, pos, negsuc, FitsSigned}
use Rattle.std.proofs.lemmas.Int.{ints, of_z-to_z}
use Rattle.std.specs.List.{All}
use Rattle.std.proofs.lemmas.List.Elements.{All-head, All-tail}
use Rattle.std.proofs.Math.Facts.{sfits_to_z}
use mir.Val.{bits, hbits}
use mir.Syntax.{w8, w16, w32, w128}
use Rattle.std.specs.Int.{Width, w64, byte_len, byte_at, bytes_low_first, to_le_bytes, from_le_bytes, cast_signed, sum_through, byte_worth, FitsUnsigned, FitsUnsignedBits}
use Rattle.row_code.specs.Spelling.{whole_bytes}

-- two lists that go on, of one length
pub cut : (a b r s : List ℕ) → length a ≡ length b → a ++ r ≡ b ++ s → (a ≡ b) × (r ≡ s)
cut [] [] r s l e = (refl, e)
cut [] (y ∷ b) r s l e = absurd (omega arith)
cut (x ∷ a) [] r s l e = absurd (omega arith)
cut (x ∷ a) (y ∷ b) r s l e =
    let tails : a ++ r ≡ b ++ s = cc in
    let heads : x ≡ y = cc in
    let rest = cut a b r s (omega arith) tails in
    (ap₂ (λ (h : ℕ) (t : List ℕ). h ∷ t) heads rest.0, rest.1)

pub length-low : (i k n : ℕ) → length (bytes_low_first i k n) ≡ k
length-low i zero n = refl
length-low i (suc k) n = ap suc (length-low (suc i) k n)

pub length-to_le_bytes : (w : Width) (n : ℕ) → length (to_le_bytes w n) ≡ byte_len w
length-to_le_bytes w n = length-low 0 (byte_len w) n

-- the low bytes of a number, one division after another
pub low_bytes : ℕ → ℕ → List ℕ
low_bytes zero n = []
low_bytes (suc k) n = n % 256 ∷ low_bytes k (n / 256)

low_from : (k i n : ℕ) → bytes_low_first i k n ≡ low_bytes k (n / 256 ^ i)
unfolding low_bytes
low_from zero i n = refl
low_from (suc k) i n =
    let next : n / 256 ^ suc i ≡ n / 256 ^ i / 256 = ap (λ (m : ℕ). n / m) (pow-suc 256 i) ∙ sym (div-div-eq-div-mul n (256 ^ i) 256) in
    ap₂ (λ (h : ℕ) (t : List ℕ). h ∷ t) (first i n) (low_from k (suc i) n ∙ ap (low_bytes k) next)
  where
    first : (i n : ℕ) → byte_at i n ≡ n / 256 ^ i % 256
    first zero n = ap (λ (m : ℕ). m % 256) (let e : n ≡ n / 1 = omega arith in e)
    first (suc i) n = refl

pub to_le_bytes-low : (w : Width) (n : ℕ) → to_le_bytes w n ≡ low_bytes (byte_len w) n
to_le_bytes-low w n = low_from (byte_len w) 0 n ∙ ap (low_bytes (byte_len w)) (let e : n / 256 ^ 0 ≡ n = omega arith in e)

low_same : (k a b : ℕ) → a < 256 ^ k → b < 256 ^ k → low_bytes k a ≡ low_bytes k b → a ≡ b
unfolding low_bytes
low_same zero a b p q e = omega arith
low_same (suc k) a b p q e =
    let pa : a < 256 ^ k * 256 = rw (← pow-suc 256 k) p in
    let qb : b < 256 ^ k * 256 = rw (← pow-suc 256 k) q in
    let heads : a % 256 ≡ b % 256 = cc in
    let tails : low_bytes k (a / 256) ≡ low_bytes k (b / 256) = cc in
    let rest = low_same k (a / 256) (b / 256) (omega arith) (omega arith) tails in
    omega arith

pub whole_width : (w : Width) → 2 ^ bits w ≡ 256 ^ byte_len w
whole_width w8 = refl
whole_width w16 = refl
whole_width w32 = refl
whole_width w64 = refl
whole_width w128 = refl

-- bytes of one width go with one number
pub numbers_cut : (w : Width) (a b : ℕ) (r s : List ℕ) → a < 2 ^ bits w → b < 2 ^ bits w → to_le_bytes w a ++ r ≡ to_le_bytes w b ++ s → (a ≡ b) × (r ≡ s)
numbers_cut w a b r s p q e =
    let both = cut (to_le_bytes w a) (to_le_bytes w b) r s (length-to_le_bytes w a ∙ sym (length-to_le_bytes w b)) e in
    let pa : a < 256 ^ byte_len w = rw (← whole_width w) p in
    let qb : b < 256 ^ byte_len w = rw (← whole_width w) q in
    (low_same (byte_len w) a b pa qb (sym (to_le_bytes-low w a) ∙ both.0 ∙ to_le_bytes-low w b), both.1)

-- the number that bytes spell, the least first
pub number : List ℕ → ℕ
number [] = 0
number (b ∷ bs) = b + 256 * number bs

sum_first : (f : ℕ → ℕ) (k : ℕ) → sum_through f (suc k) ≡ f 0 + sum_through (λ i. f (suc i)) k
sum_first f zero = refl
sum_first f (suc k) = omega (arith, sum_first f k)

sum_times : (f g : ℕ → ℕ) (k : ℕ) → ((i : ℕ) → f i ≡ 256 * g i) → sum_through f k ≡ 256 * sum_through g k
sum_times f g zero h = h 0
sum_times f g (suc k) h = omega (arith, sum_times f g k h, h (suc k))

worth_more : (i b : ℕ) → byte_worth (suc i) b ≡ 256 * byte_worth i b
worth_more zero b = omega arith
worth_more (suc i) b = ap (λ (m : ℕ). b * m) (pow-suc 256 (suc i)) ∙ sym (mul_assoc b (256 ^ suc i) 256) ∙ mul_comm (b * 256 ^ suc i) 256

sum_number : (b : ℕ) (bs : List ℕ) → sum_through (λ i. byte_worth i (get_or (b ∷ bs) i 0)) (length bs) ≡ number (b ∷ bs)
unfolding number
sum_number b [] = omega arith
sum_number b (c ∷ bs) =
    let rest = sum_times (λ i. byte_worth (suc i) (get_or (c ∷ bs) i 0)) (λ i. byte_worth i (get_or (c ∷ bs) i 0)) (length bs) (λ i. worth_more i (get_or (c ∷ bs) i 0)) in
    sum_first (λ i. byte_worth i (get_or (b ∷ c ∷ bs) i 0)) (length bs) ∙ ap (λ (m : ℕ). b + m) (rest ∙ ap (λ (m : ℕ). 256 * m) (sum_number c bs))

pub number_below : (bs : List ℕ) → All (λ b. b < 2 ^ 8) bs → number bs < 256 ^ length bs
unfolding number
number_below [] h = omega arith
number_below (b ∷ bs) h =
    let here : b < 2 ^ 8 = All-head (λ (b : ℕ). b < 2 ^ 8) b bs h in
    let rest = number_below bs (All-tail (λ (b : ℕ). b < 2 ^ 8) b bs h) in
    rw (pow-suc 256 (length bs)) (omega arith)

pub low_bytes-number : (bs : List ℕ) → All (λ b. b < 2 ^ 8) bs → low_bytes (length bs) (number bs) ≡ bs
unfolding number low_bytes
low_bytes-number [] h = refl
low_bytes-number (b ∷ bs) h =
    let here : b < 2 ^ 8 = All-head (λ (b : ℕ). b < 2 ^ 8) b bs h in
    let first : (b + 256 * number bs) % 256 ≡ b = omega arith in
    let rest : (b + 256 * number bs) / 256 ≡ number bs = omega arith in
    ap₂ (λ (x : ℕ) (xs : List ℕ). x ∷ xs) first (ap (low_bytes (length bs)) rest ∙ low_bytes-number bs (All-tail (λ (b : ℕ). b < 2 ^ 8) b bs h))

from_number : (w : Width) (bs : List ℕ) → length bs ≡ byte_len w → from_le_bytes w bs ≡ number bs
from_number w8 [] e = absurd (omega arith)
from_number w16 [] e = absurd (omega arith)
from_number w32 [] e = absurd (omega arith)
from_number w64 [] e = absurd (omega arith)
from_number w128 [] e = absurd (omega arith)
from_number w (b ∷ bs) e =
    let long : byte_len w - 1 ≡ length bs = omega arith in
    ap (sum_through (λ i. byte_worth i (get_or (b ∷ bs) i 0))) long ∙ sum_number b bs

-- what bytes spell is below the power, and its bytes are these again
pub from_below : (w : Width) (bs : List ℕ) → length bs ≡ byte_len w → All (λ b. b < 2 ^ 8) bs → from_le_bytes w bs < 2 ^ bits w
from_below w bs e h =
    let below : number bs < 256 ^ length bs = number_below bs h in
    rw (from_number w bs e, whole_width w, ← e) below

pub bytes_again : (w : Width) (bs : List ℕ) → length bs ≡ byte_len w → All (λ b. b < 2 ^ 8) bs → to_le_bytes w (from_le_bytes w bs) ≡ bs
bytes_again w bs e h =
    to_le_bytes-low w (from_le_bytes w bs) ∙ ap₂ low_bytes (sym e) (from_number w bs e) ∙ low_bytes-number bs h

pub signed_again : (w : Width) (bs : List ℕ) → length bs ≡ byte_len w → All (λ b. b < 2 ^ 8) bs → whole_bytes w (cast_signed w (from_le_bytes w bs)) ≡ bs
signed_again w bs e h = ap (to_le_bytes w) (of_z-to_z w (from_le_bytes w bs) (from_below w bs e h)) ∙ bytes_again w bs e h

pub signed_fits : (w : Width) (bs : List ℕ) → length bs ≡ byte_len w → All (λ b. b < 2 ^ 8) bs → FitsSigned w (cast_signed w (from_le_bytes w bs))
signed_fits w bs e h = sfits_to_z (record { fits = from_below w bs e h })
