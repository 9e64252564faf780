-- Words that are appended to bits.
use Rattle.std.proofs.Common.{◌≡◌, ℕ, zero, suc, ◌+◌, ◌-◌, ◌*◌, ◌/◌, ◌%◌, ◌^◌, ◌<◌, ◌≤◌, min, Bool, true, false, cond, eqb, List, [], ◌∷◌, ◌++◌, map, length, take, drop, replicate, get_or, bit_or, Some, slice_get, refl, sym, ap, ap₂, subst, ◌∙◌, arith, inl, inr, zero-add}
use Rattle.std.specs.Int.{w64, bit_at as digit, byte_at, bytes_low_first, to_le_bytes}
use Rattle.std.specs.List.{All}
use Rattle.std.specs.Simd.Lanes.{mask_l}
use Rattle.std.proofs.lemmas.Simd.{mask_l-lt, bit_mask_l}
use Rattle.std.proofs.lemmas.Nat.{pow-add, shr-shr, shl_whole, or_comm, or_shifted}
use Rattle.std.proofs.lemmas.Option.{slice_get-get_or}
use Rattle.std.proofs.lemmas.List.Elements.{All-head, All-tail}
use Rattle.std.proofs.lemmas.Nat.Bits.{bit_at-zero, bit_at_ones}
use Rattle.std.proofs.lemmas.List.{append_assoc, drop-drop, length-append, length-take, length-drop, length-map, length-replicate, get_or-take, get_or-drop, get_or_append_left, get_or-append_right, get_or_default, get_or-replicate, replicate-append-replicate, map-append, same_lists, take_all, take_min, take_more}
use Rattle.std.proofs.lemmas.List.FromFn.{length-map-range_with_len, get_or-map-range_with_len}
use Rattle.std.proofs.lemmas.Bool.{cases_lt}
use Rattle.std.proofs.Math.Nat.{pow-succ'}
use Rattle.std.proofs.Math.Seq.{take-add}
use Rattle.col_arrays.specs.Bits.{bit_at, bits_of, low_bits}
use Rattle.col_arrays.proofs.BitLists.{length-bits, get_or-first_bits, bit_before}
use Rattle.col_arrays.proofs.Items.{cut_range}
use Rattle.col_arrays.proofs.Words.{digit_mod}

-- ---- the bytes of a word

pow_bytes : (i : ℕ) → 256 ^ i ≡ 2 ^ (8 * i)
pow_bytes zero = refl
pow_bytes (suc i) =
    let more : 8 + 8 * i ≡ 8 * suc i = omega arith in
    pow-succ' 256 i ∙ ap (λ m. 256 * m) (pow_bytes i) ∙ sym (pow-add 2 8 (8 * i)) ∙ ap (λ e. 2 ^ e) more

byte_digit : (i j n : ℕ) → j < 8 → digit (byte_at i n) j ≡ digit n (8 * i + j)
byte_digit zero j n h = digit_mod n 8 j h ∙ ap (digit n) (omega arith)
byte_digit (suc i) j n h =
    digit_mod (n / 256 ^ suc i) 8 j h ∙ ap (λ m. digit (n / m) j) (pow_bytes (suc i)) ∙ ap (λ m. m % 2) (shr-shr n (8 * suc i) j)

get_or-bytes : (i k n j : ℕ) → j < k → get_or (bytes_low_first i k n) j 0 ≡ byte_at (i + j) n
get_or-bytes i zero n j h = absurd (omega arith)
get_or-bytes i (suc k) n zero h = ap (λ m. byte_at m n) (omega arith)
get_or-bytes i (suc k) n (suc j) h = get_or-bytes (suc i) k n j (omega arith) ∙ ap (λ m. byte_at m n) (omega arith)

word_bit : (word i : ℕ) → i < 64 → bit_at (to_le_bytes w64 word) i ≡ eqb (digit word i) 1
word_bit word i h =
    let whole : 8 * (i / 8) + i % 8 ≡ i = omega arith in
    ap (λ b. eqb (digit b (i % 8)) 1) (get_or-bytes 0 8 word (i / 8) (omega arith) ∙ ap (λ m. byte_at m word) (zero-add (i / 8)))
    ∙ ap (λ d. eqb d 1) (byte_digit (i / 8) (i % 8) word (omega arith) ∙ ap (digit word) whole)

-- ---- bytes that are appended

bit_after : (bytes more : List ℕ) (n k : ℕ) → 8 * length bytes ≡ n → bit_at (bytes ++ more) (n + k) ≡ bit_at more k
bit_after bytes more n k h =
    let row : (n + k) / 8 ≡ length bytes + k / 8 = omega arith in
    let place : (n + k) % 8 ≡ k % 8 = omega arith in
    let rest : length bytes + k / 8 - length bytes ≡ k / 8 = omega arith in
    ap₂ (λ q r. eqb (digit (get_or (bytes ++ more) q 0) r) 1) row place
    ∙ ap (λ b. eqb (digit b (k % 8)) 1) (get_or-append_right bytes more (length bytes) (length bytes + k / 8) 0 refl (omega arith) ∙ ap (λ q. get_or more q 0) rest)

length-low_bits : (word n : ℕ) → length (low_bits word n) ≡ n
length-low_bits word n = length-map-range_with_len (λ i. eqb (digit word i) 1) 0 n

get_or-low_bits : (word n i : ℕ) (d : Bool) → i < n → get_or (low_bits word n) i d ≡ eqb (digit word i) 1
get_or-low_bits word n i d h = get_or-map-range_with_len (λ i. eqb (digit word i) 1) 0 n i i d h (zero-add i)

kept_bit : (old more : List ℕ) (n i : ℕ) → n % 8 ≡ 0 → n ≤ 8 * length old → i < n → bit_at (take (n / 8) old ++ more) i ≡ bit_at old i
kept_bit old more n i full fit low =
    let long = length-take (n / 8) old in
    bit_before (take (n / 8) old) more i (omega (arith, long)) ∙ ap (λ b. eqb (digit b (i % 8)) 1) (get_or-take (n / 8) old (i / 8) 0 (omega arith))

-- a word after bits that fill their bytes
pub bits-word : (old : List ℕ) (n m word : ℕ) → n % 8 ≡ 0 → n ≤ 8 * length old → m ≤ 64 → bits_of (take (n / 8) old ++ to_le_bytes w64 word) (n + m) ≡ bits_of old n ++ low_bits word m
bits-word old n m word full fit few =
    let front = take (n / 8) old in
    let new = front ++ to_le_bytes w64 word in
    let before : 8 * length front ≡ n = omega (arith, length-take (n / 8) old) in
    let left = length-bits old 0 n in
    let right = length-low_bits word m in
    let size = length-bits new 0 (n + m) in
    same_lists (bits_of new (n + m)) (bits_of old n ++ low_bits word m) (omega (arith, size, left, right, length-append (bits_of old n) (low_bits word m)))
    (λ i d l. get_or-first_bits new (n + m) i d (omega (arith, size)) ∙ elim (cases_lt i n) [
      | inl low ↦ kept_bit old (to_le_bytes w64 word) n i full fit low ∙ sym (get_or_append_left (bits_of old n) (low_bits word m) d i (omega (arith, left)) ∙ get_or-first_bits old n i d low)
      | inr high ↦
          let place : n + (i - n) ≡ i = omega arith in
          let within : i - n < m = omega (arith, size) in
          ap (bit_at new) (sym place) ∙ bit_after front (to_le_bytes w64 word) n (i - n) before ∙ word_bit word (i - n) (omega arith)
          ∙ sym (get_or-append_right (bits_of old n) (low_bits word m) n i d left high ∙ get_or-low_bits word m (i - n) d within)
    ])

-- the bytes that bits fill
pub bits-cut : (old new : List ℕ) (n : ℕ) → n % 8 ≡ 0 → n ≤ 8 * length old → new ≡ take (n / 8) old → bits_of new n ≡ bits_of old n
bits-cut old new n full fit cut =
    ap (λ bytes. bits_of bytes n) cut ∙ same_lists (bits_of (take (n / 8) old) n) (bits_of old n) (length-bits (take (n / 8) old) 0 n ∙ sym (length-bits old 0 n))
    (λ i d l. let low : i < n = omega (arith, length-bits (take (n / 8) old) 0 n) in
    get_or-first_bits (take (n / 8) old) n i d low ∙ ap (λ b. eqb (digit b (i % 8)) 1) (get_or-take (n / 8) old (i / 8) 0 (omega arith)) ∙ sym (get_or-first_bits old n i d low))

pub cut_room : (old new : List ℕ) (n : ℕ) → n % 8 ≡ 0 → n ≤ 8 * length old → new ≡ take (n / 8) old → n ≤ 8 * length new
cut_room old new n full fit cut = omega (arith, ap length cut, length-take (n / 8) old)

pub word_room : (old new : List ℕ) (n m word : ℕ) → n % 8 ≡ 0 → n ≤ 8 * length old → m ≤ 64 → new ≡ take (n / 8) old ++ to_le_bytes w64 word → n + m ≤ 8 * length new
word_room old new n m word full fit few more =
    let eight : length (to_le_bytes w64 word) ≡ 8 = refl in
    omega (arith, ap length more, length-append (take (n / 8) old) (to_le_bytes w64 word), length-take (n / 8) old)

-- ---- words of bits

truth : (b : Bool) → eqb (cond b 1 0) 1 ≡ b
truth true = refl
truth false = refl

pub low_bits-mask : (bits : List Bool) (n : ℕ) → n ≤ length bits → low_bits (mask_l bits) n ≡ take n bits
low_bits-mask bits n h =
    let size = length-low_bits (mask_l bits) n in
    same_lists (low_bits (mask_l bits) n) (take n bits) (omega (arith, size, length-take n bits))
    (λ i d l. let within : i < n = omega (arith, size) in
    get_or-low_bits (mask_l bits) n i d within ∙ ap (λ b. eqb b 1) (bit_mask_l bits i) ∙ truth (get_or bits i false)
    ∙ get_or_default bits i false d (omega arith) ∙ sym (get_or-take n bits i d within))

ones_or_none : (bit : Bool) (i : ℕ) → i < 64 → eqb (digit (cond bit (2 ^ 64 - 1) 0) i) 1 ≡ bit
ones_or_none true i h = ap (λ d. eqb d 1) (bit_at_ones 64 i h)
ones_or_none false i h = ap (λ d. eqb d 1) (bit_at-zero i)

-- a word of one bit throughout
pub low_bits-same : (bit : Bool) (n : ℕ) → n ≤ 64 → low_bits (cond bit (2 ^ 64 - 1) 0) n ≡ replicate n bit
low_bits-same bit n h =
    let word = cond bit (2 ^ 64 - 1) 0 in
    let size = length-low_bits word n in
    same_lists (low_bits word n) (replicate n bit) (omega (arith, size, length-replicate n bit))
    (λ i d l. let within : i < n = omega (arith, size) in
    get_or-low_bits word n i d within ∙ ones_or_none bit i (omega arith) ∙ sym (get_or-replicate n i bit d within))

-- one more bit above those of a word
mask_l-push : (bits : List Bool) (b : Bool) → mask_l (bits ++ b ∷ []) ≡ cond b 1 0 * 2 ^ length bits + mask_l bits
mask_l-push [] true = refl
mask_l-push [] false = refl
mask_l-push (x ∷ bits) true = omega (arith, mask_l-push bits true, pow-succ' 2 (length bits))
mask_l-push (x ∷ bits) false = omega (arith, mask_l-push bits false)

bit_small : (b : Bool) → cond b 1 0 < 2 ^ 1
bit_small true = omega arith
bit_small false = omega arith

-- ---- lists in words

-- the next word of a range of bits
pub range_word : (old source : List Bool) (start len k n : ℕ) → 64 * k < len → start + len ≤ length source → n ≡ min 64 (len - 64 * k)
    → (old ++ take (64 * k) (take len (drop start source))) ++ low_bits (mask_l (take 64 (drop (start + 64 * k) source))) n ≡ old ++ take (64 * (k + 1)) (take len (drop start source))
range_word old source start len k n h inside least =
    let range = take len (drop start source) in
    let rest = drop (64 * k) range in
    let lanes = take 64 (drop (start + 64 * k) source) in
    let long : length range ≡ len = omega (arith, length-take len (drop start source), length-drop start source) in
    let left : length rest ≡ len - 64 * k = omega (arith, length-drop (64 * k) range) in
    let room : n ≤ length lanes = omega (arith, length-take 64 (drop (start + 64 * k) source), length-drop (start + 64 * k) source) in
    let size : length (take n lanes) ≡ n = omega (arith, length-take n lanes) in
    let more : 64 * k + 64 ≡ 64 * (k + 1) = omega arith in
    let same : take n lanes ≡ take 64 rest =
    same_lists (take n lanes) (take 64 rest) (omega (arith, size, length-take 64 rest))
    (λ i d l. get_or-take n lanes i d (omega arith) ∙ get_or-take 64 (drop (start + 64 * k) source) i d (omega arith) ∙ get_or-drop (start + 64 * k) source i d
    ∙ ap (λ j. get_or source j d) (omega arith)
    ∙ sym (get_or-take 64 rest i d (omega arith) ∙ get_or-drop (64 * k) range i d ∙ get_or-take len (drop start source) (64 * k + i) d (omega arith) ∙ get_or-drop start source (64 * k + i) d)) in
    append_assoc old (take (64 * k) range) (low_bits (mask_l lanes) n)
    ∙ ap (λ word. old ++ (take (64 * k) range ++ word)) (low_bits-mask lanes n room ∙ same)
    ∙ ap (λ all. old ++ all) (sym (take-add (64 * k) 64 range) ∙ ap (λ m. take m range) more)

-- a range in two pieces
pub joined_range : {X : Type 0} (old source : List X) (start first len : ℕ) → first ≤ len
    → (old ++ take first (drop start source)) ++ take (len - first) (drop (start + first) source) ≡ old ++ take len (drop start source)
joined_range old source start first len h =
    let whole : first + (len - first) ≡ len = omega arith in
    append_assoc old (take first (drop start source)) (take (len - first) (drop (start + first) source))
    ∙ ap (λ rest. old ++ (take first (drop start source) ++ take (len - first) rest)) (sym (drop-drop first start source))
    ∙ ap (λ all. old ++ all) (sym (take-add first (len - first) (drop start source)) ∙ ap (λ n. take n (drop start source)) whole)

-- copies in two pieces
pub joined_copies : (old : List Bool) (bit : Bool) (first more n : ℕ) → first ≤ more → length old < n → more ≡ n - length old
    → (old ++ replicate first bit) ++ replicate (more - first) bit ≡ take n old ++ replicate (n - length old) bit
joined_copies old bit first more n h longer rest =
    let whole : first + (more - first) ≡ n - length old = omega arith in
    append_assoc old (replicate first bit) (replicate (more - first) bit)
    ∙ ap₂ (λ front copies. front ++ copies) (sym (take_all n old (omega arith))) (replicate-append-replicate first (more - first) bit ∙ ap (λ m. replicate m bit) whole)

-- the next word of copies of a bit
pub same_word : (old : List Bool) (bit : Bool) (n k m : ℕ) → 64 * k < n → m ≡ min 64 (n - 64 * k)
    → (old ++ replicate (min (64 * k) n) bit) ++ low_bits (cond bit (2 ^ 64 - 1) 0) m ≡ old ++ replicate (min (64 * (k + 1)) n) bit
same_word old bit n k m inside least =
    let copies = min (64 * k) n in
    let more : copies + m ≡ min (64 * (k + 1)) n = omega arith in
    append_assoc old (replicate copies bit) (low_bits (cond bit (2 ^ 64 - 1) 0) m)
    ∙ ap (λ word. old ++ (replicate copies bit ++ word)) (low_bits-same bit m (omega arith))
    ∙ ap (λ all. old ++ all) (replicate-append-replicate copies m bit ∙ ap (λ j. replicate j bit) more)

-- the next word of bits at indexes
pub chunk_word : (f : ℕ → Bool) (idxs : List ℕ) (k n : ℕ) → n ≡ min 64 (length idxs - 64 * k)
    → map f (take (64 * k) idxs) ++ low_bits (mask_l (map f (take n (drop (64 * k) idxs)))) n ≡ map f (take (64 * (k + 1)) idxs)
chunk_word f idxs k n least =
    let rest = drop (64 * k) idxs in
    let chunk = take n rest in
    let long = length-map chunk f in
    let size : length chunk ≡ n = omega (arith, length-take n rest, length-drop (64 * k) idxs) in
    let part : n ≡ min 64 (length rest) = omega (arith, length-drop (64 * k) idxs) in
    let more : 64 * k + 64 ≡ 64 * (k + 1) = omega arith in
    ap (λ word. map f (take (64 * k) idxs) ++ word) (low_bits-mask (map f chunk) n (omega arith) ∙ take_all n (map f chunk) (omega arith))
    ∙ sym (map-append f (take (64 * k) idxs) chunk)
    ∙ ap (map f) (ap (λ m. take (64 * k) idxs ++ take m rest) part ∙ ap (λ few. take (64 * k) idxs ++ few) (take_min 64 rest) ∙ sym (take-add (64 * k) 64 idxs) ∙ ap (λ m. take m idxs) more)

-- one more bit at an index
pub gathered_more : (f : ℕ → Bool) (idxs : List ℕ) (k word : ℕ) (b : Bool) → k < length idxs → length idxs ≤ 64 → word ≡ mask_l (map f (take k idxs)) → b ≡ f (get_or idxs k 0)
    → bit_or word (cond b 1 0 * 2 ^ k % 2 ^ 64) ≡ mask_l (map f (take (k + 1) idxs))
gathered_more f idxs k word b within few so_far next =
    let bits = map f (take k idxs) in
    let size : length bits ≡ k = omega (arith, length-map (take k idxs) f, length-take k idxs) in
    let small : word < 2 ^ k = subst (λ w. w < 2 ^ k) (sym so_far) (subst (λ n. mask_l bits < 2 ^ n) size (mask_l-lt bits)) in
    ap (bit_or word) (shl_whole (cond b 1 0) 1 k 64 (bit_small b) (omega arith)) ∙ or_comm word (cond b 1 0 * 2 ^ k) ∙ or_shifted (cond b 1 0) k word small
    ∙ ap₂ (λ n w. cond b 1 0 * 2 ^ n + w) (sym size) so_far ∙ sym (mask_l-push bits b)
    ∙ ap mask_l (ap (λ c. bits ++ c ∷ []) next ∙ sym (map-append f (take k idxs) (get_or idxs k 0 ∷ [])) ∙ ap (map f) (sym (take_more idxs k 0 within)))

-- the bits at indexes that are within
pub gathered_all : (bits : List Bool) (idxs : List ℕ) → All (λ i. i < length bits) idxs → map Some (map (λ i. get_or bits i false) idxs) ≡ map (slice_get bits) idxs
gathered_all bits [] within = refl
gathered_all bits (i ∷ idxs) within =
    ap₂ (λ b rest. b ∷ rest) (sym (slice_get-get_or bits i false (All-head (λ i. i < length bits) i idxs within))) (gathered_all bits idxs (All-tail (λ i. i < length bits) i idxs within))

pub ruleset words = (range_word, same_word, length-replicate, cut_range, length-append, length-take, length-drop)
