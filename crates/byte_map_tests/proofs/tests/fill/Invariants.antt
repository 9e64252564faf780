use Rattle.std.proofs.Common.{◌≤◌, length}
use Rattle.byte_map_tests.specs.Hashed.{HaveHash}
use Rattle.byte_map_tests.proofs.tests.fill.Given as goal

abbrev pub invariant-loop-i : goal.invariant-loop-i
invariant-loop-i g l = record {
  few : length l.map.entries ≤ l.i;
  hash : HaveHash l.map.entries;
}
