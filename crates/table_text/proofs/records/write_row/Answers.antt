use Rattle.std.proofs.Common.{map, arith}
use Rattle.std.proofs.lemmas.Grind.{common_steps}
use Rattle.table_text.proofs.RowRecords.{row_by_columns, field_in}
use Rattle.table_text.specs.Writers.{text_so_far}
use Rattle.table_text.proofs.RowText.{row_ended}
use Rattle.table_text.proofs.records.write_row.Goals as goal

pub returns : goal.returns
returns c =
    let by_columns = row_by_columns c.args.mark.now c.args.table.now c.columns-column-items.result.now c.args.i c.columns-column-items.ensures.under c.columns-column-items.ensures.rows c.requires.place in
    let text = row_ended (text_so_far c.args.writer.now) c.args.mark.now (map (field_in c.args.i) c.columns-column-items.result.now) in
    grind (arith, common_steps, by_columns, text)
