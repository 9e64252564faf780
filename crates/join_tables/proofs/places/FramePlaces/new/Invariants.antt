use Rattle.std.proofs.Common.{◌≡◌, ◌+◌, map, length, take}
use Rattle.std.specs.List.{flat_map, range_with_len}
use Rattle.join_tables.proofs.places.FramePlaces.new.Given as goal

abbrev pub invariant-loop-list : goal.invariant-loop-list
invariant-loop-list l = record {
  rows_are : l.rows.items ≡ flat_map (λ v. v.items) (take l.list-index l.lists);
  starts_are : l.starts.items ≡ map (λ j. length (flat_map (λ v. v.items) (take j l.lists))) (range_with_len 0 (l.list-index + 1));
}
