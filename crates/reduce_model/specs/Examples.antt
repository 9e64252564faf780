-- Words for worked answers.
use Rattle.std.specs.Prelude.{ℕ, pos, neg_ℤ, List}
use Rattle.col_core.specs.declared.leaf.Leaf.{Leaf}
use Rattle.col_core.specs.declared.leaf.Leaf.TheVariants as leaves

abbrev pub number : ℕ → Leaf
number n = leaves.Whole (pos n)

abbrev pub minus : ℕ → Leaf
minus n = leaves.Whole (neg_ℤ (pos n))

abbrev pub text : List ℕ → Leaf
text t = leaves.Bytes t
