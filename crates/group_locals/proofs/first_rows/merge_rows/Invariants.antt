use Rattle.std.proofs.Common.{◌≡◌, min, take}
use Rattle.reduce_states.specs.Moves.{entered, cut_or_filled}
use Rattle.group_locals.specs.Rows.{top}
use Rattle.group_locals.proofs.first_rows.merge_rows.Given as goal

abbrev pub invariant-loop-i : goal.invariant-loop-i
invariant-loop-i l = l.first_rows ≡ entered top min (cut_or_filled top l.fn.first_rows l.fn.groups) (take l.i l.group_idxs) (take l.i l.others)
