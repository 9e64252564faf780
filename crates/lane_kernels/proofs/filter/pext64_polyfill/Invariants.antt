use Rattle.std.proofs.Common.{◌≡◌, ◌≤◌, ◌-◌, take}
use Rattle.std.specs.List.{count_by}
use Rattle.lane_kernels.specs.Positions.{filtered, word_bits, word_of}
use Rattle.lane_kernels.proofs.filter.pext64_polyfill.Given as goal

abbrev pub invariant-loop-kept : goal.invariant-loop-kept
invariant-loop-kept l = record { word : l.out ≡ word_of (filtered (take l.i (word_bits l.word)) (take l.i (word_bits l.mask))); kept : l.kept ≡ count_by (λ bit. bit) (take l.i (word_bits l.mask)); within : l.i ≤ 64 }

abbrev pub decreases-loop-kept : goal.decreases-loop-kept
decreases-loop-kept l = 64 - l.i
