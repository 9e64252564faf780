use Rattle.std.proofs.Common.{◌≡◌, length}
use Rattle.std.specs.Vec.Iter.{into_iter_items, into_iter_len}
use Rattle.std.specs.List.{All}
use Rattle.col_core.specs.Tables.{Column}
use Rattle.col_core.specs.Values.{Fits}
use Rattle.col_core.proofs.Named.{IsNamed}
use Rattle.col_core.proofs.frame.columns_named.Given as goal

abbrev pub invariant-loop-column : goal.invariant-loop-column
invariant-loop-column l = record {
  named : IsNamed l.schema l.fn.columns.items l.named.items (into_iter_items l.column-iterator);
  fits : All (λ (column : Column). All (Fits column.dtype) column.values) l.named.items;
  counted : into_iter_len l.column-iterator ≡ length (into_iter_items l.column-iterator);
}
