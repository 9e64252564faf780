use Rattle.col_core.proofs.ItemLeaves.{bytes_kept}
use Rattle.col_core.proofs.items.BinaryArrayValueArray.count.Goals as goal

pub returns-clause-kept : goal.returns-clause-kept
returns-clause-kept c = bytes_kept c.args.self.now c.len.ensures.bytes
