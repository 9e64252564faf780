use Rattle.col_core.proofs.ItemLeaves.{numbers_kept}
use Rattle.col_core.proofs.items.PrimitiveArrayValueArray.count.Goals as goal

pub returns-clause-kept : goal.returns-clause-kept
returns-clause-kept g c = numbers_kept g.T.Number.value g.T.Number.fits c.args.self.now c.len.ensures.numbers
