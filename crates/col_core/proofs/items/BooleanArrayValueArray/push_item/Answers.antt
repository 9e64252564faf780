use Rattle.col_core.specs.declared.leaf.Leaf.TheVariants as leaves
use Rattle.col_core.proofs.ItemLeaves.{leaves_moved}
use Rattle.col_core.proofs.items.BooleanArrayValueArray.push_item.Goals as goal

pub returns-clause-ok : goal.returns-clause-ok
returns-clause-ok c = leaves_moved c.push_from.result (λ b. leaves.Bool b) c.args.self.now c.args.source.now c.push_from.new.self c.args.i c.push_from.ensures.ok c.requires
