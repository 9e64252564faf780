use Rattle.std.proofs.Common.{◌≡◌, ◌<◌, ℕ, length, drop}
use Rattle.std.specs.List.{All}
use Rattle.col_core.specs.Physical.{IsNumber}
use Rattle.col_core.specs.Tables.{leaves_of}
use Rattle.reduce_model.specs.declared.kind.ReductionKind.TheVariants.{Sum}
use Rattle.reduce_states.specs.States.{start, merge}
use Rattle.reduce_states.specs.Moves.{entered, ones}
use Rattle.reduce_sum.specs.Sums.{total_states}
use Rattle.reduce_sum.proofs.adding.add_values.Given as goal

abbrev pub invariant-loop-chunk : goal.invariant-loop-chunk
invariant-loop-chunk g l = record {
  long : length l.totals ≡ length l.fn.totals;
  rest : length (leaves_of (drop l.chunk-index l.chunk-items)) ≡ length l.rest;
  places : All (λ g. g < length l.totals) l.rest;
  fit : All (IsNumber g.T.Number.fits) (leaves_of (drop l.chunk-index l.chunk-items));
  states : (n : ℕ) → entered (start Sum l.fn.values.dtype) (merge Sum l.fn.values.dtype) (total_states g.T.Number.value l.fn.values.dtype l.totals) l.rest (ones Sum l.fn.values.dtype n (leaves_of (drop l.chunk-index l.chunk-items)))
      ≡ entered (start Sum l.fn.values.dtype) (merge Sum l.fn.values.dtype) (total_states g.T.Number.value l.fn.values.dtype l.fn.totals) l.fn.group_idxs (ones Sum l.fn.values.dtype n l.fn.values.values);
}
