-- Words and their bits.
use Rattle.std.proofs.Common.{◌≡◌, ◌≢◌, ℕ, zero, suc, ◌+◌, ◌*◌, ◌/◌, ◌%◌, ◌^◌, ◌<◌, ◌≤◌, Bool, true, false, cond, eqb, List, [], ◌∷◌, ◌++◌, length, take, drop, get_or, bit_and, bit_or, refl, sym, ap, subst, ◌∙◌, arith, inl, inr}
use Rattle.std.specs.Int.{bit_at}
use Rattle.std.specs.Int.RustNames.{count_ones}
use Rattle.std.specs.List.{count_by}
use Rattle.std.specs.Simd.Lanes.{mask_l}
use Rattle.std.proofs.lemmas.Simd.{mask_l-lt, bit_mask_l, ones-mask_l}
use Rattle.std.proofs.lemmas.Nat.{or_comm, or_shifted, shl_whole, and_mask}
use Rattle.std.proofs.Math.Nat.{mul_comm}
use Rattle.std.proofs.lemmas.Nat.Bits.{same_from_bits_below, bit_at-lt}
use Rattle.std.proofs.lemmas.List.{take_all, map-id, length-take, take-append-drop}
use Rattle.std.proofs.lemmas.List.FromFn.{length-map-range_with_len, get_or-map-range_with_len}
use Rattle.std.proofs.lemmas.List.Sums.{count_by-le-length, sum_by-append, count_by_more_yes, count_by_more_no}
use Rattle.std.proofs.lemmas.Bool.{cases_lt}
use Rattle.std.proofs.lemmas.Bool.Decides.{nat_tests}
use Rattle.lane_kernels.specs.Positions.{filtered, word_bits, word_of}
use Rattle.lane_kernels.proofs.Filtered.{filtered_more_yes, filtered_more_no, length-filtered, word-push}

pub length-word_bits : (w : ℕ) → length (word_bits w) ≡ 64
length-word_bits w = length-map-range_with_len (λ i. eqb (bit_at w i) 1) 0 64

pub get_or-word_bits : (w i : ℕ) (d : Bool) → i < 64 → get_or (word_bits w) i d ≡ eqb (bit_at w i) 1
get_or-word_bits w i d h = get_or-map-range_with_len (λ i. eqb (bit_at w i) 1) 0 64 i i d h (omega arith)

digit_of : (d : ℕ) → d < 2 → cond (eqb d 1) 1 0 ≡ d
digit_of zero h = refl
digit_of (suc zero) h = refl
digit_of (suc (suc d)) h = absurd (omega arith)

-- the word of a word's bits
pub word_of-bits : (w : ℕ) → w < 2 ^ 64 → word_of (word_bits w) ≡ w
word_of-bits w small =
    same_from_bits_below 64 (word_of (word_bits w)) w (let low = mask_l-lt (word_bits w) in rw (length-word_bits w) at low) small
    (λ i h. bit_mask_l (word_bits w) i ∙ ap (λ b. cond b 1 0) (get_or-word_bits w i false h) ∙ digit_of (bit_at w i) (bit_at-lt w i))

-- as many set bits as the word has
pub count_word_bits : (w : ℕ) → w < 2 ^ 64 → count_by (λ bit. bit) (word_bits w) ≡ count_ones w
count_word_bits w small =
    sym (ones-mask_l (λ bit. bit) (word_bits w)) ∙ ap (λ bits. count_ones (mask_l bits)) (map-id (word_bits w)) ∙ ap count_ones (word_of-bits w small)

-- while bits are left, the place is one of the word's
pub place_left : (w i : ℕ) → w < 2 ^ 64 → i ≤ 64 → count_by (λ bit. bit) (take i (word_bits w)) < count_ones w → i < 64
place_left w i small h left =
    elim (cases_lt i 64) [
      | inl below ↦ below
      | inr above ↦ absurd (omega (arith, count_word_bits w small, ap (count_by (λ bit. bit)) (take_all i (word_bits w) (omega (arith, length-word_bits w)))))
    ]

-- one more bit on top of a word
pub or_bit : (out kept b : ℕ) → b < 2 → kept < 64 → out < 2 ^ kept → bit_or out (b * 2 ^ kept % 2 ^ 64) ≡ out + 2 ^ kept * b
or_bit out kept b one few small =
    ap (bit_or out) (shl_whole b 1 kept 64 one (omega arith)) ∙ or_comm out (b * 2 ^ kept) ∙ or_shifted b kept out small ∙ omega (arith, mul_comm b (2 ^ kept))

-- how many bits are set before a place, and from it on
count_split : (bits : List Bool) (i : ℕ) → count_by (λ bit. bit) bits ≡ count_by (λ bit. bit) (take i bits) + count_by (λ bit. bit) (drop i bits)
count_split bits i = ap (count_by (λ bit. bit)) (sym (take-append-drop i bits)) ∙ sum_by-append (λ b. cond b 1 0) (take i bits) (drop i bits)

-- where as many bits were met as the word has, none is left
pub all_counted : (w i : ℕ) → w < 2 ^ 64 → count_ones w ≤ count_by (λ bit. bit) (take i (word_bits w)) → count_by (λ bit. bit) (take i (word_bits w)) ≡ count_by (λ bit. bit) (word_bits w)
all_counted w i small all = omega (arith, count_word_bits w small, count_split (word_bits w) i)

-- a step that keeps a bit
pub bit_kept : (word mask i out kept b : ℕ) → i < 64 → out ≡ word_of (filtered (take i (word_bits word)) (take i (word_bits mask))) → kept ≡ count_by (λ bit. bit) (take i (word_bits mask))
    → bit_at mask i ≡ 1 → b ≡ bit_at word i → bit_or out (b * 2 ^ kept % 2 ^ 64) ≡ word_of (filtered (take (i + 1) (word_bits word)) (take (i + 1) (word_bits mask)))
bit_kept word mask i out kept b place before met set digit =
    let wb = word_bits word in
    let mb = word_bits mask in
    let front = filtered (take i wb) (take i mb) in
    let bit = get_or wb i false in
    let short : length (take i mb) ≡ i = omega (arith, length-take i mb, length-word_bits mask) in
    let short_word : length (take i wb) ≡ i = omega (arith, length-take i wb, length-word_bits word) in
    let long : length front ≡ kept = length-filtered (take i wb) (take i mb) (short ∙ sym short_word) ∙ sym met in
    let few : kept < 64 = omega (arith, count_by-le-length (λ b. b) (take i mb)) in
    let small : out < 2 ^ kept = subst (λ k. out < 2 ^ k) long (subst (λ w. w < 2 ^ length front) (sym before) (mask_l-lt front)) in
    let one : b < 2 = omega (arith, bit_at-lt word i) in
    let value : cond bit 1 0 ≡ b = ap (λ c. cond c 1 0) (get_or-word_bits word i false place) ∙ digit_of (bit_at word i) (bit_at-lt word i) ∙ sym digit in
    let on : get_or mb i false ≡ true = get_or-word_bits mask i false place ∙ ap (λ d. eqb d 1) set in
    or_bit out kept b one few small
    ∙ ap (λ w. w + 2 ^ kept * b) before
    ∙ ap (λ k. word_of front + 2 ^ k * b) (sym long)
    ∙ ap (λ d. word_of front + 2 ^ length front * d) (sym value)
    ∙ sym (word-push front bit)
    ∙ ap word_of (sym (filtered_more_yes wb mb i false (omega (arith, length-word_bits word)) (omega (arith, length-word_bits mask)) on))

not_one : (d : ℕ) → d ≢ 1 → eqb d 1 ≡ false
not_one d h = grind (arith, nat_tests)

unset_bit : (mask i : ℕ) → i < 64 → bit_at mask i ≢ 1 → get_or (word_bits mask) i false ≡ false
unset_bit mask i place unset = get_or-word_bits mask i false place ∙ not_one (bit_at mask i) unset

-- a step that passes a bit by
pub bit_passed : (word mask i out : ℕ) → i < 64 → out ≡ word_of (filtered (take i (word_bits word)) (take i (word_bits mask))) → bit_at mask i ≢ 1
    → out ≡ word_of (filtered (take (i + 1) (word_bits word)) (take (i + 1) (word_bits mask)))
bit_passed word mask i out place before unset =
    before ∙ ap word_of (sym (filtered_more_no (word_bits word) (word_bits mask) i (omega (arith, length-word_bits word)) (omega (arith, length-word_bits mask)) (unset_bit mask i place unset)))

-- one more set bit is met, or none
pub count_kept : (mask i kept : ℕ) → i < 64 → kept ≡ count_by (λ bit. bit) (take i (word_bits mask)) → bit_at mask i ≡ 1 → kept + 1 ≡ count_by (λ bit. bit) (take (i + 1) (word_bits mask))
count_kept mask i kept place met set =
    ap (λ n. n + 1) met ∙ sym (count_by_more_yes (λ bit. bit) (word_bits mask) i false (omega (arith, length-word_bits mask)) (get_or-word_bits mask i false place ∙ ap (λ d. eqb d 1) set))

pub count_passed : (mask i kept : ℕ) → i < 64 → kept ≡ count_by (λ bit. bit) (take i (word_bits mask)) → bit_at mask i ≢ 1 → kept ≡ count_by (λ bit. bit) (take (i + 1) (word_bits mask))
count_passed mask i kept place met unset =
    met ∙ sym (count_by_more_no (λ bit. bit) (word_bits mask) i false (omega (arith, length-word_bits mask)) (unset_bit mask i place unset))

-- the lowest bit of a shifted word
pub lowest_bit : (w i : ℕ) → bit_and (w / 2 ^ i) 1 ≡ bit_at w i
lowest_bit w i = and_mask (w / 2 ^ i) 1
