-- What the kernels answer, position by position.
use Rattle.std.specs.Prelude.{◌≡◌, ℕ, ◌*◌, ◌/◌, ◌==◌, ℤ, int_lt, Bool, false, not, Contains, All, List, [], ◌∷◌, if◌then◌else◌, map, length, take, drop}
use Rattle.std.specs.List.{range_with_len}
use Rattle.std.specs.Int.{bit_at}
use Rattle.std.specs.Ordering.{int_eq}
use Rattle.std.specs.Simd.Lanes.{mask_l, sel_l, zip2}
use Rattle.col_arrays.specs.Bits.{bits_of}
use Rattle.col_arrays.specs.Items.{stored, presence}

-- how whole numbers compare
abbrev pub int_ne : ℤ → ℤ → Bool
int_ne x y = not (int_eq x y)

abbrev pub int_le : ℤ → ℤ → Bool
int_le x y = not (int_lt y x)

abbrev pub int_gt : ℤ → ℤ → Bool
int_gt x y = int_lt y x

abbrev pub int_ge : ℤ → ℤ → Bool
int_ge x y = not (int_lt x y)

-- a comparison of the values of two lists, place by place
abbrev pub compared_bits : {A : Type 0} → (ℤ → ℤ → Bool) → (A → ℤ) → List A → List A → List Bool
compared_bits holds value xs ys = zip2 (λ x y. holds (value x) (value y)) xs ys

-- a comparison of each value with one
abbrev pub compared_with : {A : Type 0} → (ℤ → ℤ → Bool) → (A → ℤ) → List A → A → List Bool
compared_with holds value xs y = map (λ x. holds (value x) (value y)) xs

-- the items whose mask bit is set, in order
abbrev pub filtered : {A : Type 0} → List A → List Bool → List A
filtered [] mask = []
filtered (x ∷ xs) [] = []
filtered (x ∷ xs) (m ∷ mask) = if m then x ∷ filtered xs mask else filtered xs mask

-- the item of the first list where the mask bit is set, and of the second where it is not
abbrev pub chosen : {A : Type 0} → List Bool → List A → List A → List A
chosen mask xs ys = sel_l mask xs ys

-- the values that are present, in order
abbrev pub present_values : {A : Type 0} → List (A × Bool) → List A
present_values items = filtered (stored items) (presence items)

-- a value of the list that none of its values beats
pub record IsBest {A : Type 0} (beats : ℤ → ℤ → Bool) (value : A → ℤ) (xs : List A) (x : A) : Type 0 where
  pub among : Contains xs x
  pub unbeaten : All (λ y. beats (value y) (value x) ≡ false) xs

-- a value of the list than which none is less
abbrev pub IsLeast : {A : Type 0} → (A → ℤ) → List A → A → Type 0
IsLeast value xs x = IsBest int_lt value xs x

-- a value of the list than which none is greater
abbrev pub IsGreatest : {A : Type 0} → (A → ℤ) → List A → A → Type 0
IsGreatest value xs x = IsBest int_gt value xs x

-- the bits of a word, the lowest first
abbrev pub word_bits : ℕ → List Bool
word_bits word = map (λ i. bit_at word i == 1) (range_with_len 0 64)

-- the word of some bits, the lowest first
abbrev pub word_of : List Bool → ℕ
word_of bits = mask_l bits

-- how many of n items whole blocks hold
abbrev pub in_blocks : ℕ → ℕ → ℕ
in_blocks block n = n / block * block

-- the items of whole blocks whose mask bit is set, in order
abbrev pub filtered_blocks : {A : Type 0} → ℕ → List A → List ℕ → List A
filtered_blocks block xs mask_bytes = filtered (take (in_blocks block (length xs)) xs) (bits_of mask_bytes (in_blocks block (length xs)))

-- the items after whole blocks
abbrev pub unread : {A : Type 0} → ℕ → List A → List A
unread block xs = drop (in_blocks block (length xs)) xs

-- the mask bytes after those of whole blocks
abbrev pub unread_mask : {A : Type 0} → ℕ → List A → List ℕ → List ℕ
unread_mask block xs mask_bytes = drop (in_blocks block (length xs) / 8) mask_bytes
