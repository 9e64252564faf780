use Rattle.chunked_idx_table.specs.Probes.{row_matches}
use Rattle.chunked_idx_table.proofs.Replies.{few_answers}
use Rattle.chunked_idx_table.proofs.laws.few_pairs_under_a_limit.Goals as goal

pub returns : goal.returns
returns c = λ t keys emit limit idxs p. few_answers (row_matches t keys emit) limit idxs p
