use Rattle.chunked_idx_table.proofs.Marks.{all_at}
use Rattle.chunked_idx_table.proofs.row_encoded.asked_row.Goals as goal

pub returns-in-None : goal.returns-in-None
returns-in-None c = λ keys inside. all_at c.args.subset keys c.args.i c.in-None.is inside
