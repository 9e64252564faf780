use Rattle.std.proofs.Common.{take}
use Rattle.col_arrays.specs.Items.{AreNumbers}
use Rattle.col_arrays.proofs.primitive.know_numbers.Given as goal

abbrev pub invariant-loop-value : goal.invariant-loop-value
invariant-loop-value g l = AreNumbers g.T.Number.value g.T.Number.fits (take l.value-index l.values)
