use Rattle.std.proofs.Common.{◌≡◌, ℕ, map, take}
use Rattle.col_core.specs.declared.data_type.DataType.{DataType}
use Rattle.col_core.specs.Values.{number_leaf}
use Rattle.reduce_model.specs.declared.kind.ReductionKind.TheVariants.{Sum}
use Rattle.reduce_states.specs.States.{total, after}
use Rattle.reduce_states.specs.Moves.{numbered}
use Rattle.reduce_sum.specs.Sums.{WrapsAs}
use Rattle.reduce_sum.proofs.adding.with_numbers.Given as goal

abbrev pub invariant-loop-i : goal.invariant-loop-i
invariant-loop-i g l = (t : DataType) (n : ℕ) → WrapsAs g.T.Number.wrap t
    → total t (g.T.Number.value l.sum) ≡ after Sum t (total t (g.T.Number.value l.fn.sum)) (numbered n (take l.i (map (number_leaf g.S.Number.value) l.numbers)))
