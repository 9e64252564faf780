use Rattle.std.proofs.Common.{◌≡◌, ◌∷◌, ◌++◌, map, take}
use Rattle.table_text.specs.Records.{header_record, row_record, records_text}
use Rattle.table_text.specs.Writers.{IsBetweenRecords, text_so_far}
use Rattle.table_text.proofs.text.write_table.Given as goal

abbrev pub invariant-loop-i : goal.invariant-loop-i
invariant-loop-i l = record {
  between : IsBetweenRecords l.writer;
  so_far : text_so_far l.writer ≡ text_so_far l.fn.writer ++ records_text (header_record l.mark l.table.schema ∷ map (row_record l.mark l.table.schema) (take l.i l.table.rows));
}
