use Rattle.std.proofs.Common.{ap₂, sym, ◌∙◌, arith, ◌<◌, length}
use Rattle.reduce_model.specs.Folds.{better}
use Rattle.reduce_min_max.specs.Best.{order_of}
use Rattle.reduce_min_max.proofs.Scanned.{fold_of_more}
use Rattle.reduce_min_max.proofs.truth_groups.best_truth.Goals as goal

pub loop-i-preserved : goal.loop-i-preserved
loop-i-preserved g c = λ t.
    let k = g.S.Side.kind in
    let vs = c.args.values.now.values in
    let inside : c.loop-i.i < length vs = omega (arith, c.len-i-end.ensures) in
    c.better_truth-best.ensures
    ∙ ap₂ (better (order_of k)) (c.loop-i.invariant t) (c.truth_of.ensures ∙ c.leaf_ref.ensures.value)
    ∙ sym (fold_of_more k t vs c.loop-i.i g.met.S.Side.kind_law inside)
