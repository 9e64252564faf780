use Rattle.std.proofs.Common.{◌≡◌, Bool, List, length, map, take, MatchOption}
use Rattle.group_reduce.specs.Reducing.{all_shown}
use Rattle.kept_values.specs.Shown.{shown_values}
use Rattle.kept_values.proofs.finished.finished_column.Given as goal

abbrev pub invariant-loop-i : goal.invariant-loop-i
invariant-loop-i g l = record {
  dtype : l.column.dtype ≡ l.fn.dtype;
  values : (bits : List Bool) → MatchOption l.mask (bits ≡ all_shown (length l.kept)) (λ m. bits ≡ m.now)
      → l.column.values ≡ take l.i (shown_values (map g.G.GivesValues.given l.kept) bits);
}
