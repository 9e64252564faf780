-- What a sum is, whichever type keeps it.
use Rattle.std.specs.Prelude.{◌≡◌, ℕ, pos, true, List, length, replicate}
use Rattle.list_laws.specs.Each.{Each}
use Rattle.col_core.specs.declared.data_type.DataType.{DataType}
use Rattle.col_core.specs.declared.data_type.PhysicalType.TheVariants as kept
use Rattle.group_reduce.specs.Nulls.{null_length, null_states}
use Rattle.reduce_model.specs.declared.kind.ReductionKind.TheVariants as kinds
use Rattle.reduce_states.specs.States.{State, IsState, start}
use Rattle.reduce_states.specs.Reductions.{Shape}
use Rattle.reduce_sum.specs.declared.any_sum.AnySum.{AnySum}
use Rattle.reduce_sum.specs.declared.any_sum.AnySum.TheVariants.{I32, U32, I64, U64, I128, Null}
use Rattle.reduce_sum.specs.Sums.{form_of, total_states, total_states_length, totals_are_states}

abbrev pub sum_dtype : AnySum → DataType
sum_dtype (I32 r) = r.in_dtype
sum_dtype (U32 r) = r.in_dtype
sum_dtype (I64 r) = r.in_dtype
sum_dtype (U64 r) = r.in_dtype
sum_dtype (I128 r) = r.in_dtype
sum_dtype (Null r) = r.dtype

abbrev pub sum_groups : AnySum → ℕ
sum_groups (I32 r) = length r.totals.items
sum_groups (U32 r) = length r.totals.items
sum_groups (I64 r) = length r.totals.items
sum_groups (U64 r) = length r.totals.items
sum_groups (I128 r) = length r.totals.items
sum_groups (Null r) = r.groups

abbrev pub sum_form : AnySum → ℕ
sum_form (I32 r) = form_of kept.I32
sum_form (U32 r) = form_of kept.U32
sum_form (I64 r) = form_of kept.I64
sum_form (U64 r) = form_of kept.U64
sum_form (I128 r) = form_of kept.I128
sum_form (Null r) = form_of kept.Bytes

abbrev pub sum_shape : AnySum → Shape
sum_shape r = record { kind = kinds.Sum; dtype = sum_dtype r; fixed = true; groups = sum_groups r; form = sum_form r }

abbrev pub sum_holds : AnySum → List State → Type 0
sum_holds (I32 r) xs = xs ≡ total_states (λ z. z) r.in_dtype r.totals.items
sum_holds (U32 r) xs = xs ≡ total_states (λ n. pos n) r.in_dtype r.totals.items
sum_holds (I64 r) xs = xs ≡ total_states (λ z. z) r.in_dtype r.totals.items
sum_holds (U64 r) xs = xs ≡ total_states (λ n. pos n) r.in_dtype r.totals.items
sum_holds (I128 r) xs = xs ≡ total_states (λ z. z) r.in_dtype r.totals.items
sum_holds (Null r) xs = xs ≡ replicate r.groups (start kinds.Sum r.dtype)

pub sum_length : (r : AnySum) (xs : List State) → sum_holds r xs → length xs ≡ (sum_shape r).groups
sum_length (I32 r) xs h = total_states_length (λ z. z) r.in_dtype r.totals.items xs h
sum_length (U32 r) xs h = total_states_length (λ n. pos n) r.in_dtype r.totals.items xs h
sum_length (I64 r) xs h = total_states_length (λ z. z) r.in_dtype r.totals.items xs h
sum_length (U64 r) xs h = total_states_length (λ n. pos n) r.in_dtype r.totals.items xs h
sum_length (I128 r) xs h = total_states_length (λ z. z) r.in_dtype r.totals.items xs h
sum_length (Null r) xs h = null_length r.groups r.dtype xs h

pub sums_are_states : (r : AnySum) (xs : List State) → sum_holds r xs → Each (IsState kinds.Sum (sum_dtype r)) xs
sums_are_states (I32 r) xs h = totals_are_states (λ z. z) r.in_dtype r.totals.items xs h
sums_are_states (U32 r) xs h = totals_are_states (λ n. pos n) r.in_dtype r.totals.items xs h
sums_are_states (I64 r) xs h = totals_are_states (λ z. z) r.in_dtype r.totals.items xs h
sums_are_states (U64 r) xs h = totals_are_states (λ n. pos n) r.in_dtype r.totals.items xs h
sums_are_states (I128 r) xs h = totals_are_states (λ z. z) r.in_dtype r.totals.items xs h
sums_are_states (Null r) xs h = null_states r.groups r.dtype xs h
