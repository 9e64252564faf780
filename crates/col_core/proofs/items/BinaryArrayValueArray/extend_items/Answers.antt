use Rattle.col_core.specs.declared.leaf.Leaf.TheVariants as leaves
use Rattle.col_core.proofs.ItemLeaves.{leaves_extended}
use Rattle.col_core.proofs.items.BinaryArrayValueArray.extend_items.Goals as goal

pub returns-clause-ok : goal.returns-clause-ok
returns-clause-ok c = leaves_extended c.extend_from_range.result (λ b. leaves.Bytes b) c.args.self.now c.args.source.now c.extend_from_range.new.self c.args.start c.args.len c.extend_from_range.ensures.ok
