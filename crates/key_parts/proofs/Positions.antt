-- Words and the positions that they stand for.
use Rattle.std.proofs.Common.{◌≡◌, ℕ, ◌<◌, ◌≤◌, ◌+◌, ◌-◌, ◌*◌, ◌/◌, ◌%◌, ◌^◌, ◌==◌, Bool, true, false, cond, Option, Some, None, refl, ap, ap₂, sym, ◌∙◌, subst, eqb, arith}
use Rattle.std.proofs.lemmas.Bool.{ne_eqb}
use Rattle.key_parts.specs.Positions.{Position, position_of, word_of}

-- a word that stands for a position is the position's word
pub word_of-position : (word : ℕ) (p : Position) → position_of word ≡ Some p → word ≡ word_of p
unfolding position_of
word_of-position word p is = named (word == 2 ^ 64 - 1) is
  where
    named : (greatest : Bool) → cond greatest None (Some (record { chunk = word % 2 ^ 32; row = word / 2 ^ 32 })) ≡ Some p → word ≡ word_of p
    named true e = cc
    named false e = let same : record { chunk = word % 2 ^ 32; row = word / 2 ^ 32 } ≡ p = cc in let rows : word / 2 ^ 32 ≡ p.row = ap (λ (q : Position). q.row) same in let chunks : word % 2 ^ 32 ≡ p.chunk = ap (λ (q : Position). q.chunk) same in omega arith

-- the word of a position stands for it
pub position_of-word : (p : Position) → p.chunk < 2 ^ 32 → word_of p < 2 ^ 64 - 1 → position_of (word_of p) ≡ Some p
unfolding position_of
position_of-word p chunk word =
    let rows : (p.row * 2 ^ 32 + p.chunk) / 2 ^ 32 ≡ p.row = omega arith in
    let chunks : (p.row * 2 ^ 32 + p.chunk) % 2 ^ 32 ≡ p.chunk = omega arith in
    let other : (word_of p == 2 ^ 64 - 1) ≡ false = ne_eqb (word_of p) (2 ^ 64 - 1) (λ same. omega arith) in
    rw (other, rows, chunks) refl
