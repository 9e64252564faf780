use Rattle.std.proofs.Common.{map, arith}
use Rattle.std.proofs.lemmas.Grind.{common_steps}
use Rattle.table_text.specs.Writers.{text_so_far}
use Rattle.table_text.proofs.RowText.{row_ended}
use Rattle.table_text.proofs.records.write_header.Goals as goal

pub returns : goal.returns
returns c =
    let text = row_ended (text_so_far c.args.writer.now) c.args.mark.now (map (λ f. f.name) c.args.schema.now) in
    grind (arith, common_steps, text)
