use Rattle.std.proofs.Common.{◌≡◌, ◌≤◌, vec_len, vec_capacity, take, drop}
use Rattle.std.specs.List.{zip}
use Rattle.group_parts.proofs.partition.paired.Given as goal

abbrev pub invariant-loop-i : goal.invariant-loop-i
invariant-loop-i g l = record {
  left : l.left.rest.items ≡ drop l._i l.fn.lists.items;
  bits : l.bits.rest.items ≡ drop l._i l.fn.masks.items;
  pairs : l.pairs.items ≡ zip (take l._i l.fn.lists.items) (take l._i l.fn.masks.items);
  many : vec_len l.pairs ≡ l._i;
  room : l.count ≤ vec_capacity l.pairs;
}
