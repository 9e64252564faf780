use Rattle.std.proofs.Common.{◌≡◌, length}
use Rattle.std.specs.Vec.Iter.{into_iter_items, into_iter_len}
use Rattle.std.specs.List.{All}
use Rattle.col_core.specs.Tables.{Column}
use Rattle.col_core.specs.Values.{Fits}
use Rattle.pair_rows.proofs.Finished.{IsFinishing}
use Rattle.pair_rows.proofs.builder.FrameBuilder.finish.Given as goal

abbrev pub invariant-loop-column : goal.invariant-loop-column
invariant-loop-column l = record {
  parts : IsFinishing l.schema-inside.fields.items (into_iter_items l.initial.column-iterator) l.finished.items (into_iter_items l.column-iterator);
  fits : All (λ (column : Column). All (Fits column.dtype) column.values) l.finished.items;
  counted : into_iter_len l.column-iterator ≡ length (into_iter_items l.column-iterator);
}
