-- The whole numbers of a type of so many bits.
use Rattle.std.proofs.Common.{◌≡◌, ◌+◌, ◌^◌, ℕ, ℤ, pos, negsuc, ◌≤ℤ◌, arith}
use Rattle.std.specs.Int.{FitsUnsignedBits}
use Rattle.std.proofs.lemmas.Int.{ints}

pub unsigned_from : (k m : ℕ) (z : ℤ) → m + 1 ≡ 2 ^ k → pos 0 ≤ℤ z → z ≤ℤ pos m → FitsUnsignedBits k z
unsigned_from k m (pos n) e h l = omega (arith, ints)
unsigned_from k m (negsuc n) e h l = absurd (omega (arith, ints))

pub unsigned_least : (k : ℕ) (z : ℤ) → FitsUnsignedBits k z → pos 0 ≤ℤ z
unsigned_least k (pos n) h = omega (arith, ints)
unsigned_least k (negsuc n) h = absurd h

pub unsigned_greatest : (k m : ℕ) (z : ℤ) → m + 1 ≡ 2 ^ k → FitsUnsignedBits k z → z ≤ℤ pos m
unsigned_greatest k m (pos n) e h = omega (arith, ints)
unsigned_greatest k m (negsuc n) e h = absurd h

pub ruleset ranges = (unsigned_from, unsigned_least, unsigned_greatest)
