use Rattle.std.proofs.Common.{◌≡◌, ◌+◌, min, length, take}
use Rattle.std.specs.List.{range_with_len}
use Rattle.reduce_states.specs.Moves.{entered, cut_or_filled}
use Rattle.group_locals.specs.Rows.{top}
use Rattle.group_locals.proofs.first_rows.note_rows.Given as goal

abbrev pub invariant-loop-group : goal.invariant-loop-group
invariant-loop-group l = record {
  row_is : l.row ≡ l.fn.first_row + l.group-index;
  so_far : l.first_rows ≡ entered top min (cut_or_filled top l.fn.first_rows l.fn.groups) (take l.group-index l.group_idxs) (take l.group-index (range_with_len l.fn.first_row (length l.group_idxs)));
}
