use Rattle.std.proofs.Common.{◌<◌, length, map, option_copied, ap, ap₂, sym, ◌∙◌, arith}
use Rattle.std.proofs.lemmas.List.{length-map}
use Rattle.col_core.specs.declared.leaf.Leaf.TheVariants as leaves
use Rattle.col_core.specs.Values.{item_leaf}
use Rattle.reduce_model.specs.Folds.{better}
use Rattle.kept_values.specs.Kept.{bytes_or_null}
use Rattle.reduce_min_max.specs.Best.{order_of}
use Rattle.reduce_min_max.proofs.Scanned.{item_bytes, fold_more}
use Rattle.reduce_min_max.proofs.bytes.best_of_array.Goals as goal

pub loop-i-preserved : goal.loop-i-preserved
loop-i-preserved g c =
    let items = c.args.items.now in
    let i = c.loop-i.i in
    let f = better (order_of g.S.Side.kind) in
    let inside : i < length items = omega (arith, c.len-i-end.ensures.len) in
    let values = map (item_leaf (λ b. leaves.Bytes b)) items in
    let place : i < length values = omega (arith, length-map items (item_leaf (λ b. leaves.Bytes b))) in
    c.better_bytes-best.ensures
    ∙ ap₂ f c.loop-i.invariant (ap bytes_or_null c.get.ensures ∙ item_bytes items i inside)
    ∙ sym (fold_more f (bytes_or_null (option_copied c.args.so_far)) values i place)
