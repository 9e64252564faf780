-- The text of an answer.
use Rattle.std.specs.Prelude.{ℕ, List, ◌++◌, codes}
use Rattle.col_core.specs.Tables.{Table}
use Rattle.table_text.specs.Records.{table_records, records_text}
use Rattle.table_text.specs.Laws.{ReadsBack as TablesReadBack}

-- the text of the joined rows and their groups: the records of the first table, marked J, and then those of the second, marked G
abbrev pub answer_text_of : Table → Table → List ℕ
answer_text_of rows groups = records_text (table_records (codes "J") rows ++ table_records (codes "G") groups)

-- csv's reader gives the records of the two tables back
abbrev pub ReadsBack : Table → Table → Type 0
ReadsBack rows groups = TablesReadBack (codes "J") rows (codes "G") groups
