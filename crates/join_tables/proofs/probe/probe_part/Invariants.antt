use Rattle.std.proofs.Common.{◌≡◌, ◌+◌, ◌-◌, ◌≤◌, length, take}
use Rattle.join_tables.specs.Probing.{found_in, with_rows_marked}
use Rattle.join_tables.proofs.probe.probe_part.Given as goal

abbrev pub invariant-loop-done : goal.invariant-loop-done
invariant-loop-done g l = record {
  front : l.done ≤ length l.rows;
  pairs_are : l.pairs.items ≡ found_in l.probing l.fn.table l.partition (take l.done l.rows);
  within : length l.pairs.items ≤ l.room;
  marked : l.table ≡ with_rows_marked l.probing l.fn.table (take l.done l.rows);
  cost : l.steps ≤ l.initial.steps + l.done;
}

abbrev pub decreases-loop-done : goal.decreases-loop-done
decreases-loop-done g l = length l.rows - l.done
