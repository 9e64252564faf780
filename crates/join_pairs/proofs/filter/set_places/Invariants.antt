use Rattle.std.proofs.Common.{◌≡◌, false, filter, slice_index_or}
use Rattle.std.specs.List.{range_with_len}
use Rattle.join_pairs.proofs.filter.set_places.Given as goal

abbrev pub invariant-loop-i : goal.invariant-loop-i
invariant-loop-i l = l.places.items ≡ filter (λ k. slice_index_or l.fn.bits k false) (range_with_len 0 l.i)
