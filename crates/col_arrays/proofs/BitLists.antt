-- Lists of bits that are read from bytes.
use Rattle.std.proofs.Common.{◌≡◌, ◌≢◌, ℕ, ◌+◌, ◌-◌, ◌*◌, ◌/◌, ◌%◌, ◌^◌, ◌<◌, ◌≤◌, Bool, eqb, List, [], ◌∷◌, ◌++◌, length, take, drop, get_or, refl, sym, ap, ◌∙◌, arith, inl, inr, zero-add}
use Rattle.std.proofs.Math.ListN.{set}
use Rattle.std.proofs.lemmas.List.{length-drop, length-set, get_or-drop, get_or_append_left, get_or-set_same, get_or-set_other, same_lists, take_all}
use Rattle.std.proofs.lemmas.List.FromFn.{length-map-range_with_len, get_or-map-range_with_len, take-map-range_with_len, map-range_with_len_more}
use Rattle.std.proofs.lemmas.Bool.{cases_eq}
use Rattle.col_arrays.specs.Bits.{bit_at, bits_from, bits_of}

pub length-bits : (bytes : List ℕ) (o n : ℕ) → length (bits_from bytes o n) ≡ n
length-bits bytes o n = length-map-range_with_len (bit_at bytes) o n

pub get_or-bits : (bytes : List ℕ) (o n i : ℕ) (d : Bool) → i < n → get_or (bits_from bytes o n) i d ≡ bit_at bytes (o + i)
get_or-bits bytes o n i d h = get_or-map-range_with_len (bit_at bytes) o n i (o + i) d h refl

-- the first bits
pub get_or-first_bits : (bytes : List ℕ) (n i : ℕ) (d : Bool) → i < n → get_or (bits_of bytes n) i d ≡ bit_at bytes i
get_or-first_bits bytes n i d h = get_or-map-range_with_len (bit_at bytes) 0 n i i d h (zero-add i)

pub take-bits : (bytes : List ℕ) (o n k : ℕ) → k ≤ n → take k (bits_from bytes o n) ≡ bits_from bytes o k
take-bits bytes o n k h = take-map-range_with_len (bit_at bytes) o n k h

pub take-all_bits : (bytes : List ℕ) (o n k : ℕ) → n ≤ k → take k (bits_from bytes o n) ≡ bits_from bytes o n
take-all_bits bytes o n k h = take_all k (bits_from bytes o n) (rw (length-bits bytes o n) h)

pub drop-bits : (bytes : List ℕ) (o n k : ℕ) → k ≤ n → drop k (bits_from bytes o n) ≡ bits_from bytes (o + k) (n - k)
drop-bits bytes o n k h =
    let size : length (drop k (bits_from bytes o n)) ≡ n - k = length-drop k (bits_from bytes o n) ∙ ap (λ m. m - k) (length-bits bytes o n) in
    same_lists (drop k (bits_from bytes o n)) (bits_from bytes (o + k) (n - k)) (size ∙ sym (length-bits bytes (o + k) (n - k)))
    (λ i d l. get_or-drop k (bits_from bytes o n) i d
    ∙ get_or-map-range_with_len (bit_at bytes) o n (k + i) (o + k + i) d (omega (arith, size)) (omega arith)
    ∙ sym (get_or-bits bytes (o + k) (n - k) i d (omega (arith, size))))

-- bytes that are appended change no bit before them
pub bit_before : (bytes more : List ℕ) (k : ℕ) → k < 8 * length bytes → bit_at (bytes ++ more) k ≡ bit_at bytes k
bit_before bytes more k h = ap (λ b. eqb (b / 2 ^ (k % 8) % 2) 1) (get_or_append_left bytes more 0 (k / 8) (omega arith))

-- bytes that agree up to a place, and one more bit
pub bits-push : (old new : List ℕ) (n : ℕ) (bit : Bool) → ((k : ℕ) → k < n → bit_at new k ≡ bit_at old k) → bit_at new n ≡ bit → bits_of new (n + 1) ≡ bits_of old n ++ bit ∷ []
bits-push old new n bit same last =
    map-range_with_len_more (bit_at new) 0 n n (zero-add n)
    ∙ ap (λ front. front ++ bit_at new n ∷ []) (same_lists (bits_of new n) (bits_of old n) (length-bits new 0 n ∙ sym (length-bits old 0 n))
    (λ i d l. get_or-first_bits new n i d (omega (arith, length-bits new 0 n)) ∙ same i (omega (arith, length-bits new 0 n)) ∙ sym (get_or-first_bits old n i d (omega (arith, length-bits new 0 n)))))
    ∙ ap (λ b. bits_of old n ++ b ∷ []) last

-- one bit that is written
pub bits-set : (old new : List ℕ) (n i : ℕ) (bit : Bool) → i < n → bit_at new i ≡ bit → ((k : ℕ) → k ≢ i → bit_at new k ≡ bit_at old k) → bits_of new n ≡ set (bits_of old n) i bit
bits-set old new n i bit h written others =
    let long : length (bits_of old n) ≡ n = length-bits old 0 n in
    same_lists (bits_of new n) (set (bits_of old n) i bit) (length-bits new 0 n ∙ sym (length-set (bits_of old n) i bit ∙ long))
    (λ k d l. let within : k < n = omega (arith, length-bits new 0 n) in
    get_or-first_bits new n k d within
    ∙ elim (cases_eq k i) [
      | inl e ↦ ap (bit_at new) e ∙ written ∙ sym (ap (λ j. get_or (set (bits_of old n) i bit) j d) e ∙ get_or-set_same (bits_of old n) i bit d (omega arith))
      | inr ne ↦ others k ne ∙ sym (get_or-set_other (bits_of old n) i k bit d ne ∙ get_or-first_bits old n k d within)
    ])

pub ruleset reads = (length-bits, get_or-bits, get_or-first_bits)

pub ruleset cuts = (length-bits, take-bits, take-all_bits, drop-bits)
