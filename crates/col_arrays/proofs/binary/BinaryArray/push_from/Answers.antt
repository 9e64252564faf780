use Rattle.col_arrays.proofs.Items.{pushed_from}
use Rattle.col_arrays.proofs.binary.BinaryArray.push_from.Goals as goal

pub returns-clause-ok : goal.returns-clause-ok
returns-clause-ok c =
    pushed_from c.push.result c.source.inside.stored c.source.inside.validity c.args.source.now c.args.self.now c.push.new.self c.args.i c.get.result.now c.get-2.result c.source.invariant c.source.view_is c.get.ensures c.get-2.ensures c.push.ensures.ok
