use Rattle.std.proofs.Common.{◌≡◌}
use Rattle.reduce_states.specs.Moves.{cut_or_filled}
use Rattle.group_locals.specs.Rows.{top}
use Rattle.group_locals.proofs.first_rows.fill_rows.Given as goal

abbrev pub invariant-loop-group : goal.invariant-loop-group
invariant-loop-group l = l.first_rows ≡ cut_or_filled top l.fn.first_rows l._group
