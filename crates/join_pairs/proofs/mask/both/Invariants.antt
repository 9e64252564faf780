use Rattle.std.proofs.Common.{◌≡◌, ◌&&◌, false, map, slice_index_or}
use Rattle.std.specs.List.{range_with_len}
use Rattle.join_pairs.proofs.mask.both.Given as goal

abbrev pub invariant-loop-i : goal.invariant-loop-i
invariant-loop-i l = l.bits ≡ map (λ k. slice_index_or l.fn.a k false && slice_index_or l.fn.b k false) (range_with_len 0 l.i)
