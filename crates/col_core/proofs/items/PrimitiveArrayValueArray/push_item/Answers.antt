use Rattle.col_core.specs.declared.leaf.Leaf.TheVariants as leaves
use Rattle.col_core.proofs.ItemLeaves.{leaves_moved}
use Rattle.col_core.proofs.items.PrimitiveArrayValueArray.push_item.Goals as goal

pub returns-clause-ok : goal.returns-clause-ok
returns-clause-ok g c = leaves_moved c.push_from.result (λ n. leaves.Whole (g.T.Number.value n)) c.args.self.now c.args.source.now c.push_from.new.self c.args.i c.push_from.ensures.ok c.requires
