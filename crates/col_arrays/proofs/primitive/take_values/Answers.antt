use Rattle.std.proofs.Common.{◌≡◌, ◌+◌, get_or, slice_get, Some, ap, sym, ◌∙◌}
use Rattle.std.proofs.lemmas.Option.{slice_get-get_or}
use Rattle.col_arrays.proofs.Items.{taken_more}
use Rattle.col_arrays.proofs.primitive.take_values.Goals as goal

pub loop-idx-preserved : goal.loop-idx-preserved
loop-idx-preserved g c =
    let values = c.args.values.now in
    let k = c.loop-idx.idx-index in
    let i = get_or c.args.idxs.now k 0 in
    let x = c.index-values-idx.result in
    let there : slice_get values i ≡ Some x = slice_get-get_or values i x (c.requires k 0 c.loop-idx-test.true) ∙ ap Some (sym c.index-values-idx.is) in
    record {
      values = rw c.push_reserved.ensures.items (taken_more (slice_get values) c.args.idxs.now k c.loop-idx.taken.items x c.loop-idx-test.true c.loop-idx.invariant.values there);
      len = c.push_reserved.ensures.len ∙ ap (λ n. n + 1) c.loop-idx.invariant.len;
      room = c.push_reserved.ensures.capacity ∙ c.loop-idx.invariant.room;
    }
