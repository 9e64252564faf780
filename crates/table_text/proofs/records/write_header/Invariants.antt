use Rattle.std.proofs.Common.{◌≡◌, fold, take}
use Rattle.csv.specs.Writing.{writer_setup}
use Rattle.table_text.specs.Records.{settings, header_record}
use Rattle.table_text.specs.Writers.{standing, with_field}
use Rattle.table_text.proofs.records.write_header.Given as goal

abbrev pub invariant-loop-field : goal.invariant-loop-field
invariant-loop-field l = record {
  setup : writer_setup l.writer ≡ settings;
  so_far : standing l.writer ≡ fold with_field (standing l.fn.writer) (header_record l.mark (take l.field-index l.schema));
}
