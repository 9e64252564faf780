use Rattle.std.proofs.Common.{◌≡◌, length}
use Rattle.join_tables.proofs.deal.empty_lists.Given as goal

abbrev pub invariant-loop-i : goal.invariant-loop-i
invariant-loop-i l = length l.lists.items ≡ l._i
