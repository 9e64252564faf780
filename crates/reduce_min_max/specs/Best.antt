-- The better of two values: the lesser for least, the greater for greatest.
use Rattle.std.specs.Prelude.{◌≡◌, ◌⊎◌, ℤ, int_lt, Bool, if◌then◌else◌, Some, None}
use Rattle.std.specs.declared.cmp.Ordering.{Ordering}
use Rattle.std.specs.Ordering.{flip_args}
use Rattle.col_core.specs.declared.leaf.Leaf.{Leaf}
use Rattle.col_core.specs.declared.leaf.Leaf.TheVariants as leaves
use Rattle.reduce_model.specs.declared.kind.ReductionKind.{ReductionKind}
use Rattle.reduce_model.specs.declared.kind.ReductionKind.TheVariants as kinds
use Rattle.reduce_model.specs.Orders.{leaf_cmp}
use Rattle.lane_kernels.specs.Positions.{int_gt}
use Rattle.reduce_states.specs.States.{State, unnumbered}

-- the order under which the kind keeps the least
abbrev pub order_of : ReductionKind → Leaf → Leaf → Ordering
order_of kinds.Max = flip_args leaf_cmp
order_of _ = leaf_cmp

-- the better of two whole numbers
abbrev pub better_whole : ReductionKind → ℤ → ℤ → ℤ
better_whole kinds.Max a b = if int_lt a b then b else a
better_whole _ a b = if int_lt b a then b else a

-- a number and the state for which it stands: its own, or none where it is the number that all others beat
abbrev pub IsBestSoFar : ℤ → ℤ → State → Type 0
IsBestSoFar start z x = (x ≡ Some (unnumbered (leaves.Whole z))) ⊎ ((x ≡ None) × (z ≡ start))

-- a whole number is better than another
abbrev pub beats_of : ReductionKind → ℤ → ℤ → Bool
beats_of kinds.Max = int_gt
beats_of _ = int_lt
