use Rattle.std.proofs.Common.{◌≡◌, ◌-◌, ◌≤◌, false, map, flat_map, length, take}
use Rattle.key_parts.specs.Positions.{position}
use Rattle.hash_keys.specs.Views.{keys_of}
use Rattle.chunked_idx_table.specs.Probes.{row_matches}
use Rattle.callers.proofs.probing.all_matches.Given as goal

-- the first rows are answered, and the table is as it was
abbrev pub invariant-loop-done : goal.invariant-loop-done
invariant-loop-done g l = record {
  front : l.done ≤ length l.rows;
  matches_are : map position l.matches.items ≡ flat_map (row_matches l.fn.table (keys_of l.keys) false) (take l.done l.rows);
  same : l.table ≡ l.fn.table;
}

abbrev pub decreases-loop-done : goal.decreases-loop-done
decreases-loop-done g l = length l.rows - l.done
