use Rattle.std.proofs.Common.{◌≡◌, ◌≤◌, vec_len, vec_capacity, take, drop}
use Rattle.std.specs.List.{AllZip}
use Rattle.group_reduce.proofs.wrapped.wrap_all.Given as goal

abbrev pub invariant-loop-i : goal.invariant-loop-i
invariant-loop-i g l = record {
  left : l.left.rest.items ≡ drop l._i l.fn.parts.items;
  many : vec_len l.out ≡ l._i;
  room : l.count ≤ vec_capacity l.out;
  done : AllZip (λ s t. goal.F-post g l.fn.wrap s t) (take l._i l.fn.parts.items) l.out.items;
}
