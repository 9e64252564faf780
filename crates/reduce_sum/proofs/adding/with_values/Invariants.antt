use Rattle.std.proofs.Common.{◌≡◌, ℕ, drop}
use Rattle.std.specs.List.{All}
use Rattle.col_core.specs.Physical.{IsNumber}
use Rattle.col_core.specs.Tables.{leaves_of}
use Rattle.reduce_model.specs.declared.kind.ReductionKind.TheVariants.{Sum}
use Rattle.reduce_states.specs.States.{total, after}
use Rattle.reduce_states.specs.Moves.{numbered}
use Rattle.reduce_sum.proofs.adding.with_values.Given as goal

abbrev pub invariant-loop-chunk : goal.invariant-loop-chunk
invariant-loop-chunk g l = record {
  fit : All (IsNumber g.T.Number.fits) (leaves_of (drop l.chunk-index l.chunk-items));
  states : (n : ℕ) → after Sum l.fn.values.dtype (total l.fn.values.dtype (g.T.Number.value l.sum)) (numbered n (leaves_of (drop l.chunk-index l.chunk-items)))
      ≡ after Sum l.fn.values.dtype (total l.fn.values.dtype (g.T.Number.value l.fn.sum)) (numbered n l.fn.values.values);
}
