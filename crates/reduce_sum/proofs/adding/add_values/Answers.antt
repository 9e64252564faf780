use Rattle.std.proofs.Common.{◌≡◌, ◌<◌, ℕ, length, take, drop, sym, ap, subst, ◌∙◌, arith}
use Rattle.std.specs.List.{All}
use Rattle.std.proofs.lemmas.List.Elements.{All-drop}
use Rattle.col_core.specs.Physical.{IsNumber}
use Rattle.col_core.proofs.Leaves.{length_step}
use Rattle.reduce_model.specs.declared.kind.ReductionKind.TheVariants.{Sum}
use Rattle.reduce_sum.specs.Sums.{total_states}
use Rattle.reduce_sum.proofs.Kept.{kept_wraps}
use Rattle.reduce_sum.proofs.Entered.{entered_chunk, all_next}
use Rattle.reduce_sum.proofs.adding.add_values.Goals as goal

pub loop-chunk-preserved : goal.loop-chunk-preserved
loop-chunk-preserved g c =
    let t = c.args.values.now.dtype in
    let value = g.T.Number.value in
    let cs = c.chunks-chunk-items.result.now in
    let i = c.loop-chunk.chunk-index in
    let chunk = c.chunk-item.result in
    let rest = c.loop-chunk.rest.now in
    let front = c.split_at.result.0.now in
    let back = c.split_at.result.1.now in
    let long : length c.add_chunk.new.totals ≡ length c.loop-chunk.totals = c.add_chunk.ensures.long in
    let wraps = kept_wraps t g.T.SumType.kept g.T.Number.wrap c.requires.sums c.requires.kept g.met.T.SumType.whole_law g.met.T.SumType.wrap_as_law in
    record {
      long = long ∙ c.loop-chunk.invariant.long;
      rest = omega (arith, length_step cs i chunk c.loop-chunk-test.true c.chunk-item.is, c.loop-chunk.invariant.rest, c.split_at.ensures.back_len, c.len.ensures.len);
      places = subst (λ (n : ℕ). All (λ g. g < n) back) (sym long)
          (subst (All (λ g. g < length c.loop-chunk.totals)) (sym c.split_at.ensures.back) (All-drop (λ g. g < length c.loop-chunk.totals) c.len.result rest c.loop-chunk.invariant.places));
      fit = all_next (IsNumber g.T.Number.fits) cs i chunk c.loop-chunk-test.true c.chunk-item.is c.loop-chunk.invariant.fit;
      states = λ n.
          sym (entered_chunk Sum t (total_states value t c.loop-chunk.totals) (total_states value t c.add_chunk.new.totals) rest front back n cs i chunk c.loop-chunk-test.true c.chunk-item.is
          (c.split_at.ensures.front ∙ ap (λ (m : ℕ). take m rest) c.len.ensures.len) (c.split_at.ensures.back ∙ ap (λ (m : ℕ). drop m rest) c.len.ensures.len) (c.split_at.ensures.front_len ∙ c.len.ensures.len)
          (c.add_chunk.ensures.entered t n wraps))
          ∙ c.loop-chunk.invariant.states n;
    }
