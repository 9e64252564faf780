-- Bytes as one number, of which some bits are kept.
use Rattle.std.proofs.Common.{◌≡◌, ℕ, zero, suc, ◌+◌, ◌-◌, ◌*◌, ◌/◌, ◌%◌, ◌^◌, ◌<◌, ◌≤◌, min, Bool, true, false, not, cond, eqb, List, [], ◌∷◌, length, take, drop, get_or, bit_and, bit_or, refl, sym, ap, ap₂, subst, ◌∙◌, arith, inl, inr}
use Rattle.std.specs.Int.{bit_at as digit}
use Rattle.std.specs.Int.RustNames.{count_ones}
use Rattle.std.specs.Simd.Lanes.{mask_l}
use Rattle.std.specs.List.{count_by}
use Rattle.std.proofs.lemmas.Simd.{mask_l-lt, bit_mask_l, ones-mask_l}
use Rattle.std.proofs.lemmas.Nat.{pow_pos, pow-add, shr-shr, shr_split, mod_below, shl_whole, or_comm, or_shifted, and_mask, mul-add-lt}
use Rattle.std.proofs.lemmas.Nat.Bits.{bit_at-zero, bit_at-lt, bit_at_above, bit_at_cat_low, bit_at_cat_high, ones_shr, same_from_bits_below}
use Rattle.std.proofs.lemmas.List.{length-take, get_or-take, get_or-drop, map-id}
use Rattle.std.proofs.Math.Seq.{take-add}
use Rattle.std.proofs.Math.Pow.{pow_mono}
use Rattle.std.proofs.Math.ListN.{drop_of_length-le}
use Rattle.std.proofs.lemmas.List.Sums.{sum_by-append, sum_by-cons}
use Rattle.std.proofs.lemmas.Bool.{cases_lt}
use Rattle.col_arrays.specs.Bits.{bit_at, bits_from}
use Rattle.col_arrays.proofs.BitLists.{length-bits, get_or-bits}

-- one more byte above a number
pub word_push : (b k word : ℕ) → b < 256 → k < 9 → word < 2 ^ (8 * k) → bit_or word (b * 2 ^ (8 * k) % 2 ^ 128) ≡ b * 2 ^ (8 * k) + word
word_push b k word fit few small = ap (bit_or word) (shl_whole b 8 (8 * k) 128 fit (omega arith)) ∙ or_comm word (b * 2 ^ (8 * k)) ∙ or_shifted b (8 * k) word small

pub word_small : (b k word : ℕ) → b < 256 → word < 2 ^ (8 * k) → b * 2 ^ (8 * k) + word < 2 ^ (8 * (k + 1))
word_small b k word fit small =
    let whole : 2 ^ (8 * k) * 256 ≡ 2 ^ (8 * (k + 1)) = sym (pow-add 2 (8 * k) 8) ∙ ap (λ e. 2 ^ e) (omega arith) in
    subst (λ top. b * 2 ^ (8 * k) + word < top) whole (mul-add-lt b (2 ^ (8 * k)) word 256 fit small)

pub word_bits : (bytes : List ℕ) (k word : ℕ) → word < 2 ^ (8 * k) → ((i : ℕ) → i < 8 * k → bit_at bytes i ≡ eqb (digit word i) 1)
    → (i : ℕ) → i < 8 * (k + 1) → bit_at bytes i ≡ eqb (digit (get_or bytes k 0 * 2 ^ (8 * k) + word) i) 1
word_bits bytes k word small so_far i h =
    elim (cases_lt i (8 * k)) [
      | inl low ↦ so_far i low ∙ ap (λ d. eqb d 1) (sym (bit_at_cat_low (get_or bytes k 0) (8 * k) word i low))
      | inr high ↦
          let row : i / 8 ≡ k = omega arith in
          let place : i % 8 ≡ i - 8 * k = omega arith in
          ap₂ (λ q r. eqb (digit (get_or bytes q 0) r) 1) row place
          ∙ ap (λ d. eqb d 1) (sym (bit_at_cat_high (get_or bytes k 0) (8 * k) word i small high))
    ]

past_end : (bytes : List ℕ) (q : ℕ) → length bytes ≤ q → ◌≡◌ {A = ℕ} (get_or bytes q 0) 0
past_end [] q h = refl
past_end (b ∷ bytes) zero h = absurd (omega arith)
past_end (b ∷ bytes) (suc q) h = past_end bytes q (omega arith)

-- bits past the bytes are 0 on both sides
pub word_end : (bytes : List ℕ) (k word : ℕ) → length bytes ≤ k → word < 2 ^ (8 * k) → ((i : ℕ) → i < 8 * k → bit_at bytes i ≡ eqb (digit word i) 1)
    → (i : ℕ) → bit_at bytes i ≡ eqb (digit word i) 1
word_end bytes k word all small below i =
    elim (cases_lt i (8 * k)) [
      | inl within ↦ below i within
      | inr beyond ↦
          ap (λ b. eqb (digit b (i % 8)) 1) (past_end bytes (i / 8) (omega arith)) ∙ ap (λ d. eqb d 1) (bit_at-zero (i % 8))
          ∙ ap (λ d. eqb d 1) (sym (bit_at_above word (8 * k) i small beyond))
    ]

digit_is : (d : ℕ) (b : Bool) → d < 2 → b ≡ eqb d 1 → d ≡ cond b 1 0
digit_is zero b h e = rw e refl
digit_is (suc zero) b h e = rw e refl
digit_is (suc (suc d)) b h e = absurd (omega arith)

pub digit_mod : (n c k : ℕ) → k < c → digit (n % 2 ^ c) k ≡ digit n k
digit_mod n c k h = sym (bit_at_cat_low (n / 2 ^ c) c (n % 2 ^ c) k h) ∙ ap (λ m. digit m k) (shr_split n c)

missing : (bits : List Bool) (q : ℕ) → length bits ≤ q → ◌≡◌ {A = Bool} (get_or bits q false) false
missing [] q h = refl
missing (b ∷ bits) zero h = absurd (omega arith)
missing (b ∷ bits) (suc q) h = missing bits q (omega arith)

-- the bytes around a bit
bit_in_part : (bytes : List ℕ) (first size k : ℕ) → first % 8 + k < 8 * size → bit_at (take size (drop (first / 8) bytes)) (first % 8 + k) ≡ bit_at bytes (first + k)
bit_in_part bytes first size k h =
    let row : first / 8 + (first % 8 + k) / 8 ≡ (first + k) / 8 = omega arith in
    let place : (first % 8 + k) % 8 ≡ (first + k) % 8 = omega arith in
    ap (λ b. eqb (digit b ((first % 8 + k) % 8)) 1) (get_or-take size (drop (first / 8) bytes) ((first % 8 + k) / 8) 0 (omega arith) ∙ get_or-drop (first / 8) bytes ((first % 8 + k) / 8) 0)
    ∙ ap₂ (λ q r. eqb (digit (get_or bytes q 0) r) 1) row place

-- `count` bits of the number, by place
pub kept_bits : (word s count : ℕ) → count ≤ 64 → bit_and (word / 2 ^ s) ((2 ^ 64 - 1) / 2 ^ (64 - count)) ≡ word / 2 ^ s % 2 ^ count
kept_bits word s count h =
    ap (bit_and (word / 2 ^ s)) (ones_shr 64 (64 - count) (omega arith)) ∙ and_mask (word / 2 ^ s) (64 - (64 - count)) ∙ ap (λ c. word / 2 ^ s % 2 ^ c) (omega arith)

lane_at : (bytes : List ℕ) (o n offset size count word : ℕ) → offset < n → count ≡ min 64 (n - offset) → (o + offset) % 8 + count ≤ 8 * size
    → ((i : ℕ) → bit_at (take size (drop ((o + offset) / 8) bytes)) i ≡ eqb (digit word i) 1)
    → (k : ℕ) → k < 64 → digit (word / 2 ^ ((o + offset) % 8) % 2 ^ count) k ≡ digit (mask_l (take 64 (drop offset (bits_from bytes o n)))) k
lane_at bytes o n offset size count word inside least room are k h =
    let bits = bits_from bytes o n in
    let s = (o + offset) % 8 in
    let right : digit (mask_l (take 64 (drop offset bits))) k ≡ cond (get_or bits (offset + k) false) 1 0 =
    bit_mask_l (take 64 (drop offset bits)) k ∙ ap (λ b. cond b 1 0) (get_or-take 64 (drop offset bits) k false h ∙ get_or-drop offset bits k false) in
    elim (cases_lt k count) [
      | inl within ↦
          digit_mod (word / 2 ^ s) count k within ∙ ap (λ m. m % 2) (shr-shr word s k)
          ∙ digit_is (digit word (s + k)) (bit_at bytes (o + offset + k)) (bit_at-lt word (s + k)) (sym (bit_in_part bytes (o + offset) size k (omega arith)) ∙ are (s + k))
          ∙ ap (λ b. cond b 1 0) (sym (get_or-bits bytes o n (offset + k) false (omega arith) ∙ ap (bit_at bytes) (omega arith)))
          ∙ sym right
      | inr beyond ↦
          bit_at_above (word / 2 ^ s % 2 ^ count) count k (mod_below (word / 2 ^ s) (2 ^ count) (pow_pos count)) beyond
          ∙ ap (λ b. cond b 1 0) (sym (missing bits (offset + k) (omega (arith, length-bits bytes o n)))) ∙ sym right
    ]

mask_small : (bits : List Bool) → mask_l (take 64 bits) < 2 ^ 64
mask_small bits =
    let short : length (take 64 bits) ≤ 64 = omega (arith, length-take 64 bits) in
    omega (arith, mask_l-lt (take 64 bits), pow_mono short)

kept_small : (n count : ℕ) → count ≤ 64 → n % 2 ^ count < 2 ^ 64
kept_small n count h = omega (arith, mod_below n (2 ^ count) (pow_pos count), pow_mono h)

-- what `lanes` answers
pub lanes_are : (bytes : List ℕ) (o n offset size count word : ℕ) → offset < n → count ≡ min 64 (n - offset) → (o + offset) % 8 + count ≤ 8 * size
    → ((i : ℕ) → bit_at (take size (drop ((o + offset) / 8) bytes)) i ≡ eqb (digit word i) 1)
    → bit_and (word / 2 ^ ((o + offset) % 8)) ((2 ^ 64 - 1) / 2 ^ (64 - count)) ≡ mask_l (take 64 (drop offset (bits_from bytes o n)))
lanes_are bytes o n offset size count word inside least room are =
    let kept = word / 2 ^ ((o + offset) % 8) % 2 ^ count in
    let few : count ≤ 64 = omega arith in
    kept_bits word ((o + offset) % 8) count few
    ∙ same_from_bits_below 64 kept (mask_l (take 64 (drop offset (bits_from bytes o n)))) (kept_small (word / 2 ^ ((o + offset) % 8)) count few) (mask_small (drop offset (bits_from bytes o n)))
    (lane_at bytes o n offset size count word inside least room are)

-- past the end no bit is set
pub lanes_past : (bits : List Bool) (offset : ℕ) → length bits ≤ offset → 0 ≡ mask_l (take 64 (drop offset bits))
lanes_past bits offset h = ap (λ rest. mask_l (take 64 rest)) (sym (drop_of_length-le bits h))

-- ---- counts

ones-mask : (bits : List Bool) → count_ones (mask_l bits) ≡ count_by (λ bit. bit) bits
ones-mask bits = ap (λ ms. count_ones (mask_l ms)) (sym (map-id bits)) ∙ ones-mask_l (λ bit. bit) bits

-- the set bits of one more word
pub count_word : (bits : List Bool) (k : ℕ) → count_by (λ bit. bit) (take (64 * (k + 1)) bits) ≡ count_by (λ bit. bit) (take (64 * k) bits) + count_ones (mask_l (take 64 (drop (64 * k) bits)))
count_word bits k =
    let more : 64 * (k + 1) ≡ 64 * k + 64 = omega arith in
    ap (λ n. count_by (λ bit. bit) (take n bits)) more ∙ ap (count_by (λ bit. bit)) (take-add (64 * k) 64 bits)
    ∙ sum_by-append (λ bit. cond bit 1 0) (take (64 * k) bits) (take 64 (drop (64 * k) bits))
    ∙ ap (λ n. count_by (λ bit. bit) (take (64 * k) bits) + n) (sym (ones-mask (take 64 (drop (64 * k) bits))))

-- bits are set or not
pub count_not : (bits : List Bool) → count_by not bits + count_by (λ bit. bit) bits ≡ length bits
count_not [] = refl
count_not (true ∷ bits) = omega (arith, sum_by-cons (λ b. cond (not b) 1 0) true bits, sum_by-cons (λ b. cond b 1 0) true bits, count_not bits)
count_not (false ∷ bits) = omega (arith, sum_by-cons (λ b. cond (not b) 1 0) false bits, sum_by-cons (λ b. cond b 1 0) false bits, count_not bits)
