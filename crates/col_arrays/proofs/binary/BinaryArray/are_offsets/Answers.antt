use Rattle.std.proofs.Common.{◌↔◌, ℕ, ◌+◌, ◌<◌, Bool, true, false, IsTrue, MatchBool, List, length, get_or, refl, arith, rules}
use Rattle.std.specs.List.Sorted.{IsNonDecreasing}
use Rattle.std.proofs.lemmas.Bool.{false≢true}
use Rattle.std.proofs.lemmas.List.Sorted.{non_decreasing_from_is_sorted}
use Rattle.col_arrays.proofs.binary.BinaryArray.are_offsets.Goals as goal

ascends : (xs : List ℕ) (r : Bool) → MatchBool r (IsNonDecreasing xs) ((k : ℕ) × (k + 1 < length xs) × ((d : ℕ) → get_or xs (k + 1) d < get_or xs k d)) → IsTrue r ↔ IsNonDecreasing xs
ascends xs true up = (λ _. up, λ _. refl)
ascends xs false down = (λ e. absurd (false≢true e), λ up. absurd (omega (arith, up down.0 (down.0 + 1) 0 (omega arith) down.1, down.2 0)))

pub returns-then-offsets-last : goal.returns-then-offsets-last
returns-then-offsets-last c =
    let sorted = ascends c.args.offsets.now c.is_sorted.result (non_decreasing_from_is_sorted c.args.offsets.now c.is_sorted.result c.is_sorted.ensures.cases) in
    (λ yes. record { some = omega arith; start = search rules; ascend = sorted.0 yes; end = search rules }, λ h. sorted.1 h.ascend)
