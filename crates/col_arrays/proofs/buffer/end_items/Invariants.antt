use Rattle.std.proofs.Common.{◌≡◌, ◌+◌, ◌-◌, ◌≤◌, ◌++◌, map, take, length, vec_len, vec_capacity}
use Rattle.col_arrays.specs.Buffer.{opened}
use Rattle.col_arrays.proofs.buffer.end_items.Given as goal

abbrev pub invariant-loop-end : goal.invariant-loop-end
invariant-loop-end l = record {
  items : l.offsets.items ≡ opened l.fn.offsets.items ++ map (λ end. l.base + (end - l.first)) (take l.end-index l.ends);
  room : vec_len l.offsets + (length l.ends - l.end-index) ≤ vec_capacity l.offsets;
}
