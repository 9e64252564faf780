-- What a piece of a list and the rest make.
use Rattle.std.proofs.Common.{◌≡◌, ℕ, ◌+◌, ◌<◌, ◌≤◌, min, List, ◌++◌, length, take, drop, ap, sym, subst, ◌∙◌, length-append, arith}
use Rattle.std.proofs.lemmas.List.{take-append-drop, length-take-le}
use Rattle.std.proofs.Math.Seq.{take-append_seam}

-- the length of a list and the first n of another
pub length-more : (xs piece : List ℕ) (n : ℕ) → n ≤ length piece → length (xs ++ take n piece) ≡ length xs + n
length-more xs piece n within = length-append xs (take n piece) ∙ ap (λ k. length xs + k) (length-take-le n piece within)

-- the first n of a list, read back from the front of what they were copied to
pub take-copied : (n : ℕ) (left rest : List ℕ) → n ≤ length left → take n (take n left ++ rest) ≡ take n left
take-copied n left rest within =
    subst (λ (k : ℕ). take k (take n left ++ rest) ≡ take n left) (length-take-le n left within) (take-append_seam (take n left) rest)

pub record CopiedFront (n : ℕ) (left new : List ℕ) : Type 0 where
  pub some : 1 ≤ n
  pub within : n ≤ length new
  pub front : left ≡ take n new ++ drop n left

-- as much as may be copied from a list that is not empty to the front of a buffer
pub copied_front : (most n : ℕ) (left buffer new : List ℕ) → 1 ≤ most → 0 < length buffer → 0 < length left
    → n ≡ min (min most (length buffer)) (length left) → new ≡ take n left ++ drop n buffer → CopiedFront n left new
copied_front most n left buffer new some room more count copied =
    let within : n ≤ length left = omega arith in
    let long : length new ≡ n + length (drop n buffer) = ap length copied ∙ (length-append (take n left) (drop n buffer) ∙ ap (λ k. k + length (drop n buffer)) (length-take-le n left within)) in
    record {
      some = omega arith;
      within = omega arith;
      front = sym (ap (λ xs. take n xs ++ drop n left) copied ∙ (ap (λ xs. xs ++ drop n left) (take-copied n left (drop n buffer) within) ∙ take-append-drop n left));
    }
