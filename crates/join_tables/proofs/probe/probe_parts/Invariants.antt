use Rattle.std.proofs.Common.{◌≡◌, ◌+◌, ◌≤◌, [], length, map, get_or, take}
use Rattle.std.specs.List.{flat_map, range_with_len}
use Rattle.join_laws.specs.Partitions.{no_table}
use Rattle.join_tables.specs.Probing.{found_in, marks_rows}
use Rattle.join_tables.specs.Changed.{ChangedUpTo}
use Rattle.join_tables.proofs.probe.probe_parts.Given as goal

abbrev pub invariant-loop-p : goal.invariant-loop-p
invariant-loop-p g l = record {
  changed : ChangedUpTo (marks_rows l.probing (map (λ v. v.items) l.lists)) l.p l.fn.tables l.tables;
  found_are : map (λ q. q.items) l.found.items ≡ map (λ p. found_in l.probing (get_or l.fn.tables p no_table) p (get_or (map (λ v. v.items) l.lists) p [])) (range_with_len 0 l.p);
  room : l.room + length (flat_map (λ q. q.items) l.found.items) ≡ l.most;
  cost : l.steps ≤ l.initial.steps + length (flat_map (λ v. v.items) (take l.p l.lists));
}
