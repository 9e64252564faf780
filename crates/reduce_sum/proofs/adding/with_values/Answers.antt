use Rattle.std.proofs.Common.{sym, ◌∙◌}
use Rattle.col_core.specs.Physical.{IsNumber}
use Rattle.reduce_model.specs.declared.kind.ReductionKind.TheVariants.{Sum}
use Rattle.reduce_states.specs.States.{total}
use Rattle.reduce_sum.proofs.Kept.{kept_wraps}
use Rattle.reduce_sum.proofs.Entered.{after_chunk, all_here, all_next}
use Rattle.reduce_sum.proofs.adding.with_values.Goals as goal

pub with_chunk-sum-requires-clause-fit : goal.with_chunk-sum-requires-clause-fit
with_chunk-sum-requires-clause-fit g c = all_here (IsNumber g.T.Number.fits) c.chunks-chunk-items.result.now c.loop-chunk.chunk-index c.chunk-item.result c.loop-chunk-test.true c.chunk-item.is c.loop-chunk.invariant.fit

pub loop-chunk-preserved : goal.loop-chunk-preserved
loop-chunk-preserved g c =
    let t = c.args.values.now.dtype in
    let value = g.T.Number.value in
    let cs = c.chunks-chunk-items.result.now in
    let i = c.loop-chunk.chunk-index in
    let chunk = c.chunk-item.result in
    let wraps = kept_wraps t g.T.SumType.kept g.T.Number.wrap c.requires.sums c.requires.kept g.met.T.SumType.whole_law g.met.T.SumType.wrap_as_law in
    record {
      fit = all_next (IsNumber g.T.Number.fits) cs i chunk c.loop-chunk-test.true c.chunk-item.is c.loop-chunk.invariant.fit;
      states = λ n.
          sym (after_chunk Sum t (total t (value c.loop-chunk.sum)) (total t (value c.with_chunk-sum.result)) n cs i chunk c.loop-chunk-test.true c.chunk-item.is (c.with_chunk-sum.ensures t n wraps))
          ∙ c.loop-chunk.invariant.states n;
    }
