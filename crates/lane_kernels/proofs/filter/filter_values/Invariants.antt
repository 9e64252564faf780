use Rattle.std.proofs.Common.{◌≡◌, ◌≤◌, ◌+◌, ◌++◌, take, vec_len, vec_capacity}
use Rattle.std.specs.List.{count_by}
use Rattle.lane_kernels.specs.Positions.{filtered}
use Rattle.lane_kernels.proofs.filter.filter_values.Given as goal

abbrev pub invariant-loop-i : goal.invariant-loop-i
invariant-loop-i g l = record { items : l.out.items ≡ l.fn.out.items ++ filtered (take l.i l.values) (take l.i l.mask); len : vec_len l.out ≡ vec_len l.fn.out + count_by (λ bit. bit) (take l.i l.mask); room : vec_len l.fn.out + count_by (λ bit. bit) l.mask ≤ vec_capacity l.out }
