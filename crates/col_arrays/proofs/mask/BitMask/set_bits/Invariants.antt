use Rattle.std.proofs.Common.{◌≡◌, ◌*◌, take}
use Rattle.std.specs.List.{count_by}
use Rattle.col_arrays.proofs.mask.BitMask.set_bits.Given as goal

abbrev pub invariant-loop-word : goal.invariant-loop-word
invariant-loop-word l = l.set ≡ count_by (λ bit. bit) (take (64 * l.word) l.self)
