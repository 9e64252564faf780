-- Laws of the order of whole numbers.
use Rattle.std.proofs.Common.{◌≡◌, ℤ, true, false, int_lt, arith}
use Rattle.std.proofs.lemmas.Int.{ints}

-- no number is less than itself
pub less_tie : (x : ℤ) → int_lt x x ≡ false
less_tie x = grind (arith, ints)

-- what is less than a number is less than all that are not less than it
pub less_beats : (x y z : ℤ) → int_lt x y ≡ true → int_lt z y ≡ false → int_lt z x ≡ false
less_beats x y z h g = grind (arith, ints)

pub greater_beats : (x y z : ℤ) → int_lt y x ≡ true → int_lt y z ≡ false → int_lt x z ≡ false
greater_beats x y z h g = grind (arith, ints)
