-- Bits that say which items compare, and that a null fails each comparison.
use Rattle.std.proofs.Common.{◌≡◌, ℕ, zero, suc, ◌<◌, ℤ, Bool, true, false, ◌&&◌, List, [], ◌∷◌, map, length, get_or, slice_index_or, refl, sym, ap, ap₂, ◌∙◌, arith}
use Rattle.std.specs.List.{All, range_with_len}
use Rattle.std.proofs.lemmas.List.FromFn.{fill_by_all}
use Rattle.std.proofs.lemmas.List.Elements.{All-head, All-tail}
use Rattle.std.specs.Simd.Lanes.{zip2}
use Rattle.col_arrays.specs.Items.{stored, presence}
use Rattle.col_core.specs.declared.leaf.Leaf.{Leaf}
use Rattle.col_core.specs.declared.leaf.Leaf.TheVariants as leaves
use Rattle.col_core.specs.Values.{number_leaf}
use Rattle.join_query.specs.declared.query.FilterOp.{FilterOp}
use Rattle.join_model.specs.Filtered.{compares, holds}
use Rattle.lane_kernels.specs.Positions.{compared_bits, compared_with}

abbrev pub and : Bool → Bool → Bool
and x y = x && y

and_true : (b : Bool) → (b && true) ≡ b
and_true true = refl
and_true false = refl

and_false : (b : Bool) → (b && false) ≡ false
and_false true = refl
and_false false = refl

-- the operands in turn
pub turned : {A : Type 0} (f g : A → A → Bool) (h : (x y : A) → f x y ≡ g y x) (xs ys : List A) → zip2 f xs ys ≡ zip2 g ys xs
turned f g h [] [] = refl
turned f g h [] (y ∷ ys) = refl
turned f g h (x ∷ xs) [] = refl
turned f g h (x ∷ xs) (y ∷ ys) = ap₂ (λ b bs. b ∷ bs) (h x y) (turned f g h xs ys)

abbrev IsPresent : {A : Type 0} → A × Bool → Type 0
IsPresent item = item.1 ≡ true

-- bits of which all are kept
pub all_kept : {A : Type 0} (bits : List Bool) (items : List (A × Bool)) → length items ≡ length bits → All (λ (item : A × Bool). item.1 ≡ true) items → bits ≡ zip2 and bits (presence items)
all_kept [] [] h present = refl
all_kept [] (x ∷ xs) h present = refl
all_kept (b ∷ bits) [] h present = absurd (omega arith)
all_kept (b ∷ bits) (x ∷ xs) h present = ap₂ (λ (c : Bool) (cs : List Bool). c ∷ cs) (sym (and_true b) ∙ ap (and b) (sym (All-head IsPresent x xs present))) (all_kept bits xs (omega arith) (All-tail IsPresent x xs present))

length_of : (a b : List Bool) → length b ≡ length a → length (zip2 and a b) ≡ length a
length_of [] b h = refl
length_of (x ∷ a) [] h = absurd (omega arith)
length_of (x ∷ a) (y ∷ b) h = ap suc (length_of a b (omega arith))

both_at : (a b : List Bool) (k : ℕ) → length b ≡ length a → k < length a → get_or (zip2 and a b) k false ≡ and (get_or a k false) (get_or b k false)
both_at [] b k h l = absurd (omega arith)
both_at (x ∷ a) [] k h l = absurd (omega arith)
both_at (x ∷ a) (y ∷ b) zero h l = refl
both_at (x ∷ a) (y ∷ b) (suc k) h l = both_at a b k (omega arith) (omega arith)

-- the bits that are set in both, made place by place
pub both_are : (a b : List Bool) → length b ≡ length a → map (λ k. slice_index_or a k false && slice_index_or b k false) (range_with_len 0 (length a)) ≡ zip2 and a b
both_are a b h = sym (fill_by_all (λ k. slice_index_or a k false && slice_index_or b k false) (zip2 and a b) (length a) false (length_of a b h) (λ k l. both_at a b k h l))

-- as many bits as items
pub compared_long : {A : Type 0} (test : ℤ → ℤ → Bool) (value : A → ℤ) (xs ys : List (A × Bool)) → length xs ≡ length ys → length (compared_bits test value (stored xs) (stored ys)) ≡ length xs
compared_long test value [] ys h = refl
compared_long test value (x ∷ xs) [] h = absurd (omega arith)
compared_long test value (x ∷ xs) (y ∷ ys) h = ap suc (compared_long test value xs ys (omega arith))

pub kept_long : {A : Type 0} (bits : List Bool) (xs : List (A × Bool)) → length xs ≡ length bits → length (zip2 and bits (presence xs)) ≡ length bits
kept_long [] xs h = refl
kept_long (b ∷ bits) [] h = absurd (omega arith)
kept_long (b ∷ bits) (x ∷ xs) h = ap suc (kept_long bits xs (omega arith))

module _ {A : Type 0} (op : FilterOp) (value : A → ℤ) where
  abbrev leaf : A × Bool → Leaf
  leaf item = number_leaf value item

  one : (c p q : Bool) (x y : A) → c ≡ compares op (value x) (value y) → ((c && p) && q) ≡ holds op (leaf (x, p)) (leaf (y, q))
  one c true true x y h = and_true (c && true) ∙ and_true c ∙ h
  one c true false x y h = and_false (c && true)
  one c false true x y h = and_true (c && false) ∙ and_false c
  one c false false x y h = and_false (c && false)

  -- two arrays
  pub masked : (xs ys : List (A × Bool)) → zip2 and (zip2 and (compared_bits (compares op) value (stored xs) (stored ys)) (presence xs)) (presence ys) ≡ zip2 (holds op) (map leaf xs) (map leaf ys)
  masked [] ys = refl
  masked (x ∷ xs) [] = refl
  masked ((x, p) ∷ xs) ((y, q) ∷ ys) = ap₂ (λ (b : Bool) (bs : List Bool). b ∷ bs) (one _ p q x y refl) (masked xs ys)

  -- an array and a number
  pub masked_with : (xs : List (A × Bool)) (y : A) → zip2 and (compared_with (compares op) value (stored xs) y) (presence xs) ≡ map (λ v. holds op v (leaves.Whole (value y))) (map leaf xs)
  masked_with [] y = refl
  masked_with ((x, true) ∷ xs) y = ap₂ (λ (b : Bool) (bs : List Bool). b ∷ bs) (and_true _) (masked_with xs y)
  masked_with ((x, false) ∷ xs) y = ap₂ (λ (b : Bool) (bs : List Bool). b ∷ bs) (and_false _) (masked_with xs y)

pub ruleset masking = (all_kept, both_are, masked, masked_with)
