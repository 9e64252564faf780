-- Bits of values and of presence, and the optional truth values that they hold.
use Rattle.std.proofs.Common.{◌≡◌, ℕ, zero, suc, ◌+◌, ◌-◌, ◌<◌, ◌≤◌, max, Bool, true, false, cond, Option, Some, None, is_some, unwrap_or, List, [], ◌∷◌, ◌++◌, length, take, get_or, replicate, refl, sym, ap, ap₂, ◌∙◌, arith}
use Rattle.std.proofs.Math.ListN.{set}
use Rattle.std.proofs.lemmas.List.{length-append, length-take-le, length-replicate, take_all}
use Rattle.std.specs.Ordering.{nat_cmp, ord_max}
use Rattle.reduce_states.specs.Moves.{cut_or_filled}
use Rattle.reduce_states.proofs.Moved.{cut_or_filled-cut}
use Rattle.reduce_min_max.specs.Truths.{optional_bits}

pub bits_length : (vs ms : List Bool) → length ms ≤ length vs → length (optional_bits vs ms) ≡ length ms
bits_length [] [] h = refl
bits_length [] (m ∷ ms) h = absurd (omega arith)
bits_length (v ∷ vs) [] h = refl
bits_length (v ∷ vs) (m ∷ ms) h = ap suc (bits_length vs ms (omega arith))

pub bits_at : (vs ms : List Bool) (i : ℕ) → i < length ms → length ms ≤ length vs → get_or (optional_bits vs ms) i None ≡ cond (get_or ms i false) (Some (get_or vs i false)) None
bits_at vs [] i h l = absurd (omega arith)
bits_at [] (m ∷ ms) i h l = absurd (omega arith)
bits_at (v ∷ vs) (m ∷ ms) zero h l = refl
bits_at (v ∷ vs) (m ∷ ms) (suc i) h l = bits_at vs ms i (omega arith) (omega arith)

pub bits_set : (vs ms : List Bool) (i : ℕ) (truth : Option Bool) → optional_bits (set vs i (unwrap_or truth false)) (set ms i (is_some truth)) ≡ set (optional_bits vs ms) i truth
bits_set [] ms i truth = refl
bits_set (v ∷ vs) [] zero truth = refl
bits_set (v ∷ vs) [] (suc i) truth = refl
bits_set (v ∷ vs) (m ∷ ms) zero None = refl
bits_set (v ∷ vs) (m ∷ ms) zero (Some b) = refl
bits_set (v ∷ vs) (m ∷ ms) (suc i) truth = ap (λ (bs : List (Option Bool)). cond m (Some v) None ∷ bs) (bits_set vs ms i truth)

-- bits of values past those of presence mean nothing
pub bits_past : (vs more ms : List Bool) → length ms ≤ length vs → optional_bits (vs ++ more) ms ≡ optional_bits vs ms
bits_past [] [] [] h = refl
bits_past [] (v ∷ more) [] h = refl
bits_past [] more (m ∷ ms) h = absurd (omega arith)
bits_past (v ∷ vs) more [] h = refl
bits_past (v ∷ vs) more (m ∷ ms) h = ap (λ (bs : List (Option Bool)). cond m (Some v) None ∷ bs) (bits_past vs more ms (omega arith))

pub bits_push : (vs ms : List Bool) (truth : Option Bool) → length vs ≡ length ms → optional_bits (vs ++ unwrap_or truth false ∷ []) (ms ++ is_some truth ∷ []) ≡ optional_bits vs ms ++ truth ∷ []
bits_push [] [] None h = refl
bits_push [] [] (Some b) h = refl
bits_push [] (m ∷ ms) truth h = absurd (omega arith)
bits_push (v ∷ vs) [] truth h = absurd (omega arith)
bits_push (v ∷ vs) (m ∷ ms) truth h = ap (λ (bs : List (Option Bool)). cond m (Some v) None ∷ bs) (bits_push vs ms truth (omega arith))

bits_none : (vs : List Bool) (n : ℕ) → n ≤ length vs → optional_bits vs (replicate n false) ≡ replicate n None
bits_none [] zero h = refl
bits_none (v ∷ vs) zero h = refl
bits_none [] (suc n) h = absurd (omega arith)
bits_none (v ∷ vs) (suc n) h = ap (λ (bs : List (Option Bool)). None ∷ bs) (bits_none vs n (omega arith))

pub bits_resized : (vs ms : List Bool) (n : ℕ) → length ms ≤ length vs → n ≤ length vs → optional_bits vs (take n ms ++ replicate (n - length ms) false) ≡ cut_or_filled None (optional_bits vs ms) n
bits_resized [] [] zero h l = refl
bits_resized [] [] (suc n) h l = absurd (omega arith)
bits_resized [] (m ∷ ms) n h l = absurd (omega arith)
bits_resized (v ∷ vs) [] zero h l = refl
bits_resized (v ∷ vs) [] (suc n) h l =
    let all : suc n - 0 ≡ suc n = omega arith in
    rw all (bits_none (v ∷ vs) (suc n) l)
bits_resized (v ∷ vs) (m ∷ ms) zero h l =
    ap (optional_bits (v ∷ vs)) (cut_or_filled-cut false (m ∷ ms) zero (omega arith)) ∙ sym (cut_or_filled-cut None (optional_bits (v ∷ vs) (m ∷ ms)) zero (omega arith))
bits_resized (v ∷ vs) (m ∷ ms) (suc n) h l =
    let rest = optional_bits vs ms in
    let left : suc n - suc (length ms) ≡ n - length ms = omega arith in
    let right : suc n - suc (length rest) ≡ n - length rest = omega arith in
    rw (left, right) (ap (λ (bs : List (Option Bool)). cond m (Some v) None ∷ bs) (bits_resized vs ms n (omega arith) (omega arith)))

-- bits of values that are cut to as many as those of presence
bits_cut : (vs ms : List Bool) → length ms ≤ length vs → optional_bits (take (length ms) vs) ms ≡ optional_bits vs ms
bits_cut [] [] h = refl
bits_cut [] (m ∷ ms) h = absurd (omega arith)
bits_cut (v ∷ vs) [] h = refl
bits_cut (v ∷ vs) (m ∷ ms) h = ap (λ (bs : List (Option Bool)). cond m (Some v) None ∷ bs) (bits_cut vs ms (omega arith))

module _ (vs cut ms : List Bool) (n : ℕ) (enough : length ms ≤ length vs) (many : n ≡ length ms) (is : cut ≡ cut_or_filled false vs n) where
  cut_is : cut ≡ take (length ms) vs
  cut_is = is ∙ cut_or_filled-cut false vs n (omega arith) ∙ ap (λ (i : ℕ). take i vs) many

  pub cut_same : optional_bits cut ms ≡ optional_bits vs ms
  cut_same = ap (λ (bs : List Bool). optional_bits bs ms) cut_is ∙ bits_cut vs ms enough

  pub cut_length : length cut ≡ length ms
  cut_length = ap length cut_is ∙ length-take-le (length ms) vs enough

pub max_is : (a b : ℕ) → ord_max nat_cmp a b ≡ max a b
max_is a b = grind arith

-- and of values that are made enough for more bits of presence
module _ (vs more ms : List Bool) (n : ℕ) (enough : length ms ≤ length vs) (is : more ≡ cut_or_filled false vs (max n (length vs))) where
  more_is : more ≡ vs ++ replicate (max n (length vs) - length vs) false
  more_is = is ∙ ap (λ (bs : List Bool). bs ++ replicate (max n (length vs) - length vs) false) (take_all (max n (length vs)) vs (omega arith))

  pub more_same : optional_bits more ms ≡ optional_bits vs ms
  more_same = ap (λ (bs : List Bool). optional_bits bs ms) more_is ∙ bits_past vs (replicate (max n (length vs) - length vs) false) ms enough

  more_length : length more ≡ length vs + length (replicate (max n (length vs) - length vs) false)
  more_length = ap length more_is ∙ length-append vs (replicate (max n (length vs) - length vs) false)

  pub more_enough : n ≤ length more
  more_enough = omega (arith, more_length, length-replicate (max n (length vs) - length vs) false)

  pub more_resized : (new : List Bool) → new ≡ cut_or_filled false ms n → optional_bits more new ≡ cut_or_filled None (optional_bits vs ms) n
  more_resized new e =
      let wide : length ms ≤ length more = omega (arith, more_length) in
      ap (optional_bits more) e ∙ bits_resized more ms n wide more_enough ∙ ap (λ (bs : List (Option Bool)). cut_or_filled None bs n) more_same

pub ruleset bits = (bits_length, bits_at, bits_set, bits_past, bits_push, bits_resized)
