-- Replies under a limit.
use Rattle.std.proofs.Common.{◌≡◌, ℕ, zero, suc, ◌+◌, ◌-◌, ◌<◌, ◌≤◌, max, cond, List, [], ◌∷◌, ◌++◌, length, take, drop, refl, sym, ap, ◌∙◌, inl, inr, arith}
use Rattle.std.specs.List.{flat_map}
use Rattle.std.proofs.lemmas.Bool.{le-leb, lt-leb, cases_lt}
use Rattle.std.proofs.lemmas.List.{length-append, take_all}
use Rattle.chunked_idx_table.specs.Replies.{processed, replied, most_answers}

-- a reply takes one at least, where any is left
pub some_taken : {Q A : Type 0} (f : Q → List A) (limit : ℕ) (q : Q) (qs : List Q) → 0 < processed f limit (q ∷ qs)
some_taken f limit q qs = elim (cases_lt (length (f q)) limit) [
  | inl less ↦ rw (lt-leb limit (length (f q)) less) (omega arith)
  | inr enough ↦ rw (le-leb limit (length (f q)) enough) (omega arith)
]

-- a reply that takes none has none to take
pub none_taken : {Q A : Type 0} (f : Q → List A) (limit : ℕ) (qs : List Q) → processed f limit qs ≡ 0 → qs ≡ []
none_taken f limit [] h = refl
none_taken f limit (q ∷ qs) h = absurd (omega (arith, some_taken f limit q qs, h))

-- a reply has less than the limit before its last question
pub few_answers : {Q A : Type 0} (f : Q → List A) (limit : ℕ) (qs : List Q) → 0 < limit → length (replied f limit qs) ≤ limit - 1 + most_answers f qs
few_answers f limit [] p = omega arith
few_answers f limit (q ∷ qs) p = elim (cases_lt (length (f q)) limit) [
  | inl less ↦
      let rest = few_answers f (limit - length (f q)) qs (omega arith) in
      rw (lt-leb limit (length (f q)) less) (omega (arith, rest, length-append (f q) (replied f (limit - length (f q)) qs)))
  | inr enough ↦ rw (le-leb limit (length (f q)) enough) (omega (arith, length-append (f q) []))
]

-- the count of a loop that stops as soon as there are enough
pub processed_at : {Q A : Type 0} (f : Q → List A) (limit : ℕ) (qs : List Q) (i : ℕ) → i < length qs → (0 < i → length (flat_map f (take i qs)) < limit) → limit ≤ length (flat_map f (take (i + 1) qs)) → processed f limit qs ≡ i + 1
processed_at f limit [] i h before now = absurd (omega arith)
processed_at f limit (q ∷ qs) zero h before now = rw (le-leb limit (length (f q)) (omega (arith, now, length-append (f q) []))) refl
processed_at f limit (q ∷ qs) (suc i) h before now =
    let was = before (omega arith) in
    let e : suc i + 1 ≡ suc (i + 1) = omega arith in
    let is = rw e at now in
    let l0 = length-append (f q) (flat_map f (take i qs)) in
    let l1 = length-append (f q) (flat_map f (take (i + 1) qs)) in
    rw (lt-leb limit (length (f q)) (omega arith)) (omega (arith, processed_at f (limit - length (f q)) qs i (omega arith) (λ _. omega arith) (omega arith)))

-- and of one that comes to the end
pub processed_all : {Q A : Type 0} (f : Q → List A) (limit : ℕ) (qs : List Q) → (0 < length qs → length (flat_map f qs) < limit) → processed f limit qs ≡ length qs
processed_all f limit [] h = refl
processed_all f limit (q ∷ qs) h =
    let l0 = length-append (f q) (flat_map f qs) in
    let few = h (omega arith) in
    rw (lt-leb limit (length (f q)) (omega arith)) (ap suc (processed_all f (limit - length (f q)) qs (λ _. omega arith)))

-- the same of numbers of answers
pub counted_at : {Q A : Type 0} (f : Q → List A) (limit : ℕ) (qs : List Q) (i m m' : ℕ) → i < length qs → m ≡ length (flat_map f (take i qs)) → (0 < i → m < limit) → m' ≡ length (flat_map f (take (i + 1) qs)) → limit ≤ m' → i + 1 ≡ processed f limit qs
counted_at f limit qs i m m' h was before is now = sym (processed_at f limit qs i h (λ p. let b = before p in omega (arith, b, was)) (omega (arith, is, now)))

pub counted_all : {Q A : Type 0} (f : Q → List A) (limit : ℕ) (qs : List Q) (n m : ℕ) → n ≡ length qs → m ≡ length (flat_map f (take n qs)) → (0 < n → m < limit) → n ≡ processed f limit qs
counted_all f limit qs n m all is before =
    let whole : take n qs ≡ qs = take_all n qs (omega arith) in
    let long : m ≡ length (flat_map f qs) = is ∙ ap (λ rest. length (flat_map f rest)) whole in
    all ∙ sym (processed_all f limit qs (λ p. let b = before (omega arith) in omega (arith, b, long)))
