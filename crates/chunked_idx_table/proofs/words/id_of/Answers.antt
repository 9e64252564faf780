use Rattle.std.proofs.Common.{◌∙◌}
use Rattle.chunked_idx_table.proofs.Kept.{position_is}
use Rattle.chunked_idx_table.proofs.words.id_of.Goals as goal

pub returns : goal.returns
returns c = c.from_inner.ensures ∙ position_is c.args.word
