use Rattle.chunked_idx_table.proofs.Kept.{first_marked}
use Rattle.chunked_idx_table.proofs.words.mark.Goals as goal

pub returns-clause-same : goal.returns-clause-same
returns-clause-same c = first_marked c.args.words.now.items c.as_mut_slice-words.result.now c.as_mut_slice-words.ensures.value c.requires
