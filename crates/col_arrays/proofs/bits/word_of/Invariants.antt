use Rattle.std.proofs.Common.{◌≡◌, ℕ, ◌*◌, ◌/◌, ◌%◌, ◌^◌, ◌<◌, eqb}
use Rattle.col_arrays.specs.Bits.{bit_at}
use Rattle.col_arrays.proofs.bits.word_of.Given as goal

abbrev pub invariant-loop-k : goal.invariant-loop-k
invariant-loop-k l = record { small : l.word < 2 ^ (8 * l.k); bits : (i : ℕ) → i < 8 * l.k → bit_at l.bytes i ≡ eqb (l.word / 2 ^ i % 2) 1 }
