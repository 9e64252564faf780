-- The values of a group.
use Rattle.std.specs.Prelude.{ℕ, eqb, List, [], ◌∷◌, cond}
use Rattle.col_core.specs.declared.leaf.Leaf.{Leaf}

-- the values whose index is that of a group, in their order
abbrev pub values_of_group : List ℕ → List Leaf → ℕ → List Leaf
values_of_group [] vs g = []
values_of_group (i ∷ is) [] g = []
values_of_group (i ∷ is) (v ∷ vs) g = cond (eqb i g) (v ∷ values_of_group is vs g) (values_of_group is vs g)
