use Rattle.std.proofs.Common.{◌≡◌, map, vec_len, vec_capacity}
use Rattle.std.specs.List.{range_with_len}
use Rattle.join_generator.specs.Generated.{state_after, build_id, build_group}
use Rattle.join_generator.proofs.numbers.build_numbers.Given as goal

-- the first i rows are drawn
abbrev pub invariant-loop-i : goal.invariant-loop-i
invariant-loop-i l = record {
  ids : l.ids.items ≡ map build_id (range_with_len 0 l.i);
  others : l.others.items ≡ map build_group (range_with_len 0 l.i);
  drawn : l.draws ≡ state_after l.i;
  ids_long : vec_len l.ids ≡ l.i;
  others_long : vec_len l.others ≡ l.i;
  ids_room : vec_capacity l.ids ≡ l.fn.n;
  others_room : vec_capacity l.others ≡ l.fn.n;
}
