use Rattle.std.proofs.Common.{◌∙◌, sym}
use Rattle.hash_keys.specs.Views.{keys_of}
use Rattle.chunked_idx_table.proofs.Marks.{all_counted}
use Rattle.chunked_idx_table.proofs.row_encoded.number_asked.Goals as goal

pub returns-in-None : goal.returns-in-None
returns-in-None c = c.len.ensures.count ∙ sym (all_counted c.args.subset (keys_of c.args.hash_keys.now) c.in-None.is)
