use Rattle.std.proofs.Common.{◌≡◌, map}
use Rattle.std.specs.List.{range_with_len}
use Rattle.join_laws.specs.Locals.{first_row}
use Rattle.join_groups.specs.History.{morsel_rows}
use Rattle.join_groups.proofs.orders.first_rows.Given as goal

abbrev pub invariant-loop-morsel : goal.invariant-loop-morsel
invariant-loop-morsel l = record {
  next : l.row ≡ first_row (morsel_rows l.fn.morsels) l.morsel-index;
  so_far : l.first_rows.items ≡ map (first_row (morsel_rows l.fn.morsels)) (range_with_len 0 l.morsel-index);
}
