use Rattle.std.proofs.Common.{◌≡◌, fold, map, take, option_copied}
use Rattle.col_core.specs.declared.leaf.Leaf.TheVariants as leaves
use Rattle.col_core.specs.Values.{item_leaf}
use Rattle.reduce_model.specs.Folds.{better}
use Rattle.kept_values.specs.Kept.{bytes_or_null}
use Rattle.reduce_min_max.specs.Best.{order_of}
use Rattle.reduce_min_max.proofs.bytes.best_of_array.Given as goal

abbrev pub invariant-loop-i : goal.invariant-loop-i
invariant-loop-i g l = bytes_or_null (option_copied l.best) ≡ fold (better (order_of g.S.Side.kind)) (bytes_or_null (option_copied l.fn.so_far)) (take l.i (map (item_leaf (λ b. leaves.Bytes b)) l.items))
