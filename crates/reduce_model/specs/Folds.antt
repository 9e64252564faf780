-- What a reduction gives for the values of a group, in their order.
use Rattle.std.specs.Prelude.{ℤ, pos, ◌+ℤ◌, ◌-◌, Bool, true, false, List, fold, length}
use Rattle.std.specs.Int.{w32, w64, w128}
use Rattle.std.specs.declared.cmp.Ordering.{Ordering}
use Rattle.std.specs.Ordering.{flip_args}
use Rattle.num_traits.specs.Laws.{wrap_signed, wrap_unsigned}
use Rattle.col_core.specs.declared.leaf.Leaf.{Leaf}
use Rattle.col_core.specs.declared.leaf.Leaf.TheVariants as leaves
use Rattle.col_core.specs.declared.data_type.DataType.{DataType}
use Rattle.col_core.specs.declared.data_type.DataType.TheVariants.{Boolean, Int8, Int16, Int32, Int64, UInt8, UInt16, UInt32, UInt64, Int128, Decimal, Date, Time, Datetime, String, Binary}
use Rattle.col_core.specs.Values.{value_at}
use Rattle.reduce_model.specs.declared.kind.ReductionKind.{ReductionKind}
use Rattle.reduce_model.specs.declared.kind.ReductionKind.TheVariants as kinds
use Rattle.reduce_model.specs.Orders.{leaf_cmp, least_by}

-- what is left of a sum in the type that keeps it: 32 bits and unsigned 64 bits in their own type, decimals in 128 bits, all others in 64 bits
abbrev pub wrap_in : DataType → ℤ → ℤ
wrap_in Int32 z = wrap_signed w32 z
wrap_in UInt32 z = wrap_unsigned 32 z
wrap_in UInt64 z = wrap_unsigned 64 z
wrap_in (Decimal p s) z = wrap_signed w128 z
wrap_in _ z = wrap_signed w64 z

-- a sum and one more value; a null adds nothing
abbrev pub add_value : DataType → ℤ → Leaf → ℤ
add_value t total (leaves.Whole z) = wrap_in t (total +ℤ z)
add_value t total _ = total

-- a sum as a value; over text and bytes it is null
abbrev pub sum_leaf : DataType → ℤ → Leaf
sum_leaf String z = leaves.Null
sum_leaf Binary z = leaves.Null
sum_leaf _ z = leaves.Whole z

-- the sum of values: from 0, each addition wrapping
abbrev pub sum_of : DataType → List Leaf → Leaf
sum_of t values = sum_leaf t (fold (add_value t) (pos 0) values)

-- the better of two values under an order: a null gives way, and of two that tie the first stays
abbrev pub better : (Leaf → Leaf → Ordering) → Leaf → Leaf → Leaf
better order leaves.Null value = value
better order best leaves.Null = best
better order best value = least_by order best value

-- what a reduction gives: the sum; the least or greatest present value, or null; the first or last value, nulls included
abbrev pub fold_of : ReductionKind → DataType → List Leaf → Leaf
fold_of kinds.Sum t values = sum_of t values
fold_of kinds.Min t values = fold (better leaf_cmp) leaves.Null values
fold_of kinds.Max t values = fold (better (flip_args leaf_cmp)) leaves.Null values
fold_of kinds.First t values = value_at values 0
fold_of kinds.Last t values = value_at values (length values - 1)

-- the type of what a reduction gives: sums of 8 and 16 bits are kept in 64 bits
abbrev pub reduced_type : ReductionKind → DataType → DataType
reduced_type kinds.Sum Int8 = Int64
reduced_type kinds.Sum UInt8 = Int64
reduced_type kinds.Sum Int16 = Int64
reduced_type kinds.Sum UInt16 = Int64
reduced_type _ t = t

-- the types over which there is no sum
abbrev pub has_no_sum : DataType → Bool
has_no_sum Boolean = true
has_no_sum Int128 = true
has_no_sum Date = true
has_no_sum Time = true
has_no_sum (Datetime unit) = true
has_no_sum _ = false

-- a reduction that there is for no column of the type
abbrev pub is_unsupported : ReductionKind → DataType → Bool
is_unsupported kinds.Sum t = has_no_sum t
is_unsupported _ t = false
