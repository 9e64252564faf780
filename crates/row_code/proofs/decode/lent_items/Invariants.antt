use Rattle.std.proofs.Common.{◌≡◌, map, take}
use Rattle.col_arrays.specs.Items.{stored}
use Rattle.row_code.proofs.decode.lent_items.Given as goal

abbrev pub invariant-loop-i : goal.invariant-loop-i
invariant-loop-i l = map (λ b. b.now) l.lent.items ≡ take l.i (stored l.items)
