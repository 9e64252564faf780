-- Lent values.
use Rattle.col_core.specs.declared.leaf.Leaf.{Leaf}
use Rattle.col_core.specs.declared.leaf.Leaf.TheVariants as leaves
use Rattle.col_core.specs.declared.leaf.LeafRef.{LeafRef}
use Rattle.col_core.specs.declared.leaf.LeafRef.TheVariants as lents

-- the value that is lent
abbrev pub lent_leaf : LeafRef → Leaf
lent_leaf lents.Null = leaves.Null
lent_leaf (lents.Bool b) = leaves.Bool b
lent_leaf (lents.Whole z) = leaves.Whole z
lent_leaf (lents.Bytes b) = leaves.Bytes b.now
