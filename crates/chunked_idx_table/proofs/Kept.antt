-- Words of positions, as they are kept.
use Rattle.std.proofs.Common.{◌≡◌, ℕ, zero, suc, ◌+◌, ◌-◌, ◌^◌, ◌<◌, ◌≤◌, ◌%◌, ◌/◌, ◌==◌, Bool, true, false, cond, List, [], ◌∷◌, ◌++◌, Option, Some, None, map, length, take, drop, slice_index, slice_set, refl, sym, ap, ap₂, ◌∙◌, inl, inr, append_assoc, arith}
use Rattle.std.specs.Prelude.{unwrap_or}
use Rattle.std.specs.List.{refill}
use Rattle.std.proofs.lemmas.List.{take_at, map_more}
use Rattle.std.proofs.lemmas.Bool.{cases_Bool, eqb-true}
use Rattle.key_parts.specs.Positions.{Position, position_of}
use Rattle.chunked_idx_table.specs.Words.{position_kept, first_position, has_mark}

-- a word below the top bit is not the greatest
is_low : (w : ℕ) → w < 2 ^ 63 → (w == 2 ^ 64 - 1) ≡ false
is_low w h = elim (cases_Bool (w == 2 ^ 64 - 1)) [
  | inl same ↦ absurd (omega (arith, h, eqb-true w (2 ^ 64 - 1) same))
  | inr apart ↦ apart
]

-- so it stands for a position
pub position_is : (w : ℕ) → position_of (w % 2 ^ 63) ≡ Some (position_kept w)
unfolding position_of position_kept
position_is w =
    let low : w % 2 ^ 63 < 2 ^ 63 = omega arith in
    rw (is_low (w % 2 ^ 63) low) refl

no_position : (x : Position) → None ≡ Some x → ⊥
no_position x e = cc

some_same : {X : Type 0} {x y : X} → Some x ≡ Some y → x ≡ y
some_same e = cc

-- a word that stands for a row below 2^31 has no mark, and stands for the same with its top bit ignored
pub low_word : (w : ℕ) (x : Position) → position_of w ≡ Some x → x.row < 2 ^ 31 → w < 2 ^ 63
unfolding position_of
low_word w x is small = elim (cases_Bool (w == 2 ^ 64 - 1)) [
  | inl same ↦ absurd (no_position x (rw same at is))
  | inr apart ↦
      let here : w / 2 ^ 32 ≡ x.row = ap (λ (p : Position). p.row) (some_same (rw apart at is)) in
      omega (arith, here, small)
]

pub kept_as : (w : ℕ) (x : Position) → position_of w ≡ Some x → w < 2 ^ 63 → position_kept w ≡ x
unfolding position_kept
kept_as w x is low =
    let same : w % 2 ^ 63 ≡ w = omega arith in
    ap (λ v. unwrap_or (position_of v) first_position) same ∙ ap (λ o. unwrap_or o first_position) is

-- a mark changes no position
mark_ignored : (w : ℕ) → position_kept (w % 2 ^ 63 + 2 ^ 63) ≡ position_kept w
unfolding position_kept
mark_ignored w =
    let same : (w % 2 ^ 63 + 2 ^ 63) % 2 ^ 63 ≡ w % 2 ^ 63 = omega arith in
    ap (λ v. unwrap_or (position_of v) first_position) same

pub first_marked : (ws vs : List ℕ) → vs ≡ ws → 0 < length ws → map position_kept (refill (length ws) ws (slice_set vs 0 (slice_index vs 0 % 2 ^ 63 + 2 ^ 63))) ≡ map position_kept ws
first_marked [] vs e h = absurd (omega arith)
first_marked (w ∷ ws) vs e h =
    let whole : take (length ws) (ws ++ drop (length ws) ws) ≡ ws = take_at ws (drop (length ws) ws) (length ws) refl in
    ap (λ (us : List ℕ). map position_kept (refill (length (w ∷ ws)) (w ∷ ws) (slice_set us 0 (slice_index us 0 % 2 ^ 63 + 2 ^ 63)))) e
    ∙ ap₂ (λ (p : Position) (ps : List Position). p ∷ ps) (mark_ignored w) (ap (map position_kept) whole)

-- and a word at the end no mark
pub mark_pushed : (ws : List ℕ) (w : ℕ) → 0 < length ws → has_mark (ws ++ w ∷ []) ≡ has_mark ws
mark_pushed [] w h = absurd (omega arith)
mark_pushed (x ∷ ws) w h = refl

-- one more beside the same index
pub beside_more : (index : ℕ) (words start now new : List ℕ) (i : ℕ) → i < length words → now ≡ start ++ map (λ _. index) (take i words) → new ≡ now ++ index ∷ [] → new ≡ start ++ map (λ _. index) (take (i + 1) words)
beside_more index words start now new i h so_far more =
    more ∙ ap (λ xs. xs ++ index ∷ []) so_far ∙ append_assoc start (map (λ _. index) (take i words)) (index ∷ []) ∙ ap (λ xs. start ++ xs) (sym (map_more (λ _. index) words i 0 h))

-- beside each of some items the same index
pub beside_each : {X Y : Type 0} (index : ℕ) (f : X → Y) (xs : List X) → map (λ _. index) (map f xs) ≡ map (λ _. index) xs
beside_each index f [] = refl
beside_each index f (x ∷ xs) = ap (λ rest. index ∷ rest) (beside_each index f xs)
