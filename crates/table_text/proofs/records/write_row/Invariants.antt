use Rattle.std.proofs.Common.{◌≡◌, ◌∷◌, map, fold, take}
use Rattle.csv.specs.Writing.{writer_setup}
use Rattle.table_text.specs.Records.{settings}
use Rattle.table_text.specs.Writers.{standing, with_field}
use Rattle.table_text.proofs.RowRecords.{field_in}
use Rattle.table_text.proofs.records.write_row.Given as goal

abbrev pub invariant-loop-column : goal.invariant-loop-column
invariant-loop-column l = record {
  setup : writer_setup l.writer ≡ settings;
  so_far : standing l.writer ≡ fold with_field (standing l.fn.writer) (l.mark ∷ map (field_in l.i) (take l.column-index l.column-items));
}
