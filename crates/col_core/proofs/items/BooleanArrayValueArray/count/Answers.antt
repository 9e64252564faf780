use Rattle.col_core.proofs.ItemLeaves.{truths_kept}
use Rattle.col_core.proofs.items.BooleanArrayValueArray.count.Goals as goal

pub returns-clause-kept : goal.returns-clause-kept
returns-clause-kept c = truths_kept c.args.self.now
