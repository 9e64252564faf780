use Rattle.std.proofs.Common.{◌++◌, ◌∙◌}
use Rattle.table_text.specs.Records.{table_records}
use Rattle.table_text.proofs.ReadBack.{read_all, all_marked}
use Rattle.table_text.proofs.laws.text_reads_back.Goals as goal

pub returns : goal.returns
returns c first second a b = read_all (table_records first a ++ table_records second b) ∙ all_marked first second a b
