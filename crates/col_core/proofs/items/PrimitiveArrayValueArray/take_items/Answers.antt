use Rattle.col_core.specs.declared.leaf.Leaf.TheVariants as leaves
use Rattle.col_core.proofs.ItemLeaves.{leaves_taken}
use Rattle.col_core.proofs.items.PrimitiveArrayValueArray.take_items.Goals as goal

pub returns : goal.returns
returns g c = leaves_taken c.take.result (λ n. leaves.Whole (g.T.Number.value n)) c.args.self.now c.args.idxs.now c.take.ensures
