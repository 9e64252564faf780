use Rattle.std.proofs.Common.{◌≡◌, ◌+◌, ◌*◌, map, vec_len, vec_capacity}
use Rattle.std.specs.List.{range_with_len}
use Rattle.join_generator.specs.Generated.{state_after, probe_id, probe_amount}
use Rattle.join_generator.proofs.numbers.probe_numbers.Given as goal

-- the first j rows are drawn, each by two numbers
abbrev pub invariant-loop-j : goal.invariant-loop-j
invariant-loop-j l = record {
  ids : l.ids.items ≡ map (probe_id l.fn.n) (range_with_len 0 l.j);
  others : l.others.items ≡ map (probe_amount l.fn.n) (range_with_len 0 l.j);
  drawn : l.draws ≡ state_after (l.fn.n + 2 * l.j);
  ids_long : vec_len l.ids ≡ l.j;
  others_long : vec_len l.others ≡ l.j;
  ids_room : vec_capacity l.ids ≡ 4 * l.fn.n;
  others_room : vec_capacity l.others ≡ 4 * l.fn.n;
}
