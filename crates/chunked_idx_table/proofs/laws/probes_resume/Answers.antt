use Rattle.chunked_idx_table.specs.Probes.{all_rows}
use Rattle.chunked_idx_table.proofs.Resumed.{probes_whole, probes_end}
use Rattle.chunked_idx_table.proofs.laws.probes_resume.Goals as goal

pub returns-clause-whole : goal.returns-clause-whole
returns-clause-whole c = λ t keys emit calls none. probes_whole keys emit calls t (all_rows keys) none

pub returns-clause-ends : goal.returns-clause-ends
returns-clause-ends c = λ t keys emit calls enough. probes_end keys emit calls t (all_rows keys) enough
