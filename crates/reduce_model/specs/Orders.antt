-- The order of values.
use Rattle.std.specs.Prelude.{ℕ, Bool, if◌then◌else◌}
use Rattle.std.specs.declared.cmp.Ordering.{Ordering}
use Rattle.std.specs.Ordering.{nat_cmp, int_cmp, bool_cmp, is_lt, is_gt}
use Rattle.std.specs.Cmp.Lexicographic.{slice_cmp}
use Rattle.col_core.specs.declared.leaf.Leaf.{Leaf}
use Rattle.col_core.specs.declared.leaf.Leaf.TheVariants as leaves

-- the kinds of values, in their order
abbrev pub kind_rank : Leaf → ℕ
kind_rank leaves.Null = 0
kind_rank (leaves.Bool b) = 1
kind_rank (leaves.Whole z) = 2
kind_rank (leaves.Bytes b) = 3

-- values are ordered by kind and then within the kind: false below true, whole numbers by size, bytes lexicographically
abbrev pub leaf_cmp : Leaf → Leaf → Ordering
leaf_cmp (leaves.Bool a) (leaves.Bool b) = bool_cmp a b
leaf_cmp (leaves.Whole a) (leaves.Whole b) = int_cmp a b
leaf_cmp (leaves.Bytes a) (leaves.Bytes b) = slice_cmp nat_cmp a b
leaf_cmp a b = nat_cmp (kind_rank a) (kind_rank b)

abbrev pub leaf_lt : Leaf → Leaf → Bool
leaf_lt a b = is_lt (leaf_cmp a b)

-- the lesser of two under an order, and the first of two that tie
abbrev pub least_by : {K : Type 0} → (K → K → Ordering) → K → K → K
least_by R a b = if is_gt (R a b) then b else a
