use Rattle.std.proofs.Common.{◌≡◌, ◌++◌, map, take, length, Some}
use Rattle.key_parts.specs.Positions.{position}
use Rattle.hash_keys.specs.Gathered.{positions_from}
use Rattle.hash_keys.proofs.gather.push_positions.Given as goal

abbrev pub invariant-loop-j : goal.invariant-loop-j
invariant-loop-j l = record {
  so_far : map position l.gather_idxs.items ≡ map position l.initial.gather_idxs.items ++ map (λ x. Some x) (positions_from l.partition l.start l.j);
  kept : take (length l.initial.gather_idxs.items) l.gather_idxs.items ≡ l.initial.gather_idxs.items;
}
