use Rattle.std.proofs.Common.{◌≡◌, take, map}
use Rattle.any_reduce.specs.Kinds.{any_shape}
use Rattle.join_groups.specs.Keyed.{shape_of}
use Rattle.join_groups.proofs.locals.new_reductions.Given as goal

abbrev pub invariant-loop-reduction : goal.invariant-loop-reduction
invariant-loop-reduction l = map any_shape l.reductions.items ≡ map (shape_of l.fn.query) (take l.reduction-index l.reduction-items)
