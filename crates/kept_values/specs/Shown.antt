-- Values of which bits hide some.
use Rattle.std.specs.Prelude.{Bool, cond, List, [], ◌∷◌}
use Rattle.col_core.specs.declared.leaf.Leaf.{Leaf}
use Rattle.col_core.specs.declared.leaf.Leaf.TheVariants as leaves

-- the values, null where the bit is not set
abbrev pub shown_values : List Leaf → List Bool → List Leaf
shown_values [] bits = []
shown_values (v ∷ vs) [] = []
shown_values (v ∷ vs) (b ∷ bits) = cond b v leaves.Null ∷ shown_values vs bits
