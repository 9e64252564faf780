use Rattle.chunked_idx_table.proofs.Resumed.{unmarked_whole, unmarked_end, unmarked_once}
use Rattle.chunked_idx_table.proofs.laws.unmarked_keys_resume.Goals as goal

pub returns-clause-whole : goal.returns-clause-whole
returns-clause-whole c = λ t limits limit none. unmarked_whole t limits limit none

pub returns-clause-ends : goal.returns-clause-ends
returns-clause-ends c = λ t limits limit enough. unmarked_end t limits limit enough

pub returns-clause-once : goal.returns-clause-once
returns-clause-once c = λ t once. unmarked_once t once
