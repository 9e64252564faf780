-- A bit that is written into its byte.
use Rattle.std.proofs.Common.{◌≡◌, ◌≢◌, ℕ, ◌-◌, ◌*◌, ◌/◌, ◌%◌, ◌^◌, ◌<◌, true, false, eqb, List, length, get_or, bit_and, bit_or, sym, ap, ◌∙◌, arith, inl, inr}
use Rattle.std.specs.Int.{w8, bit_at as digit}
use Rattle.std.proofs.Math.ListN.{set}
use Rattle.std.proofs.lemmas.List.{get_or-set_same, get_or-set_other}
use Rattle.std.proofs.lemmas.Nat.Bits.{bit_at_set_same, bit_at_set_other, bit_at_clear_same, bit_at_clear_other}
use Rattle.std.proofs.lemmas.Bool.{cases_eq}
use Rattle.col_arrays.specs.Bits.{bit_at}

written_at : (bytes : List ℕ) (i v : ℕ) → i / 8 < length bytes → bit_at (set bytes (i / 8) v) i ≡ eqb (digit v (i % 8)) 1
written_at bytes i v h = ap (λ b. eqb (digit b (i % 8)) 1) (get_or-set_same bytes (i / 8) v 0 h)

kept_at : (bytes : List ℕ) (i v : ℕ) → i / 8 < length bytes → ((j : ℕ) → j < 8 → j ≢ i % 8 → digit v j ≡ digit (get_or bytes (i / 8) 0) j)
    → (k : ℕ) → k ≢ i → bit_at (set bytes (i / 8) v) k ≡ bit_at bytes k
kept_at bytes i v h others k ne =
    elim (cases_eq (k / 8) (i / 8)) [
      | inl e ↦ ap (λ q. eqb (digit (get_or (set bytes (i / 8) v) q 0) (k % 8)) 1) e
          ∙ ap (λ b. eqb (digit b (k % 8)) 1) (get_or-set_same bytes (i / 8) v 0 h)
          ∙ ap (λ d. eqb d 1) (others (k % 8) (omega arith) (λ same. ne (omega arith)))
          ∙ ap (λ q. eqb (digit (get_or bytes q 0) (k % 8)) 1) (sym e)
      | inr apart ↦ ap (λ b. eqb (digit b (k % 8)) 1) (get_or-set_other bytes (i / 8) (k / 8) v 0 apart)
    ]

pub bit_set : (bytes : List ℕ) (i : ℕ) → i < 8 * length bytes → bit_at (set bytes (i / 8) (bit_or (get_or bytes (i / 8) 0) (1 * 2 ^ (i % 8) % 256))) i ≡ true
bit_set bytes i h = written_at bytes i (bit_or (get_or bytes (i / 8) 0) (1 * 2 ^ (i % 8) % 256)) (omega arith) ∙ ap (λ d. eqb d 1) (bit_at_set_same w8 (get_or bytes (i / 8) 0) (i % 8) (omega arith))

pub bit_set_others : (bytes : List ℕ) (i : ℕ) → i < 8 * length bytes → (k : ℕ) → k ≢ i → bit_at (set bytes (i / 8) (bit_or (get_or bytes (i / 8) 0) (1 * 2 ^ (i % 8) % 256))) k ≡ bit_at bytes k
bit_set_others bytes i h = kept_at bytes i (bit_or (get_or bytes (i / 8) 0) (1 * 2 ^ (i % 8) % 256)) (omega arith) (λ j l ne. bit_at_set_other w8 (get_or bytes (i / 8) 0) (i % 8) (omega arith) j ne)

pub bit_cleared : (bytes : List ℕ) (i : ℕ) → i < 8 * length bytes → bit_at (set bytes (i / 8) (bit_and (get_or bytes (i / 8) 0) (255 - 1 * 2 ^ (i % 8) % 256))) i ≡ false
bit_cleared bytes i h = written_at bytes i (bit_and (get_or bytes (i / 8) 0) (255 - 1 * 2 ^ (i % 8) % 256)) (omega arith) ∙ ap (λ d. eqb d 1) (bit_at_clear_same w8 (get_or bytes (i / 8) 0) (i % 8) (omega arith))

pub bit_cleared_others : (bytes : List ℕ) (i : ℕ) → i < 8 * length bytes → (k : ℕ) → k ≢ i → bit_at (set bytes (i / 8) (bit_and (get_or bytes (i / 8) 0) (255 - 1 * 2 ^ (i % 8) % 256))) k ≡ bit_at bytes k
bit_cleared_others bytes i h = kept_at bytes i (bit_and (get_or bytes (i / 8) 0) (255 - 1 * 2 ^ (i % 8) % 256)) (omega arith) (λ j l ne. bit_at_clear_other w8 (get_or bytes (i / 8) 0) (i % 8) (omega arith) j l ne)

pub ruleset writes = (bit_set, bit_set_others, bit_cleared, bit_cleared_others)
