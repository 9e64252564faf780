use Rattle.col_core.specs.declared.leaf.Leaf.TheVariants as leaves
use Rattle.col_core.proofs.ItemLeaves.{leaves_taken}
use Rattle.col_core.proofs.items.BinaryArrayValueArray.take_items.Goals as goal

pub returns : goal.returns
returns c = leaves_taken c.take.result (λ b. leaves.Bytes b) c.args.self.now c.args.idxs.now c.take.ensures
