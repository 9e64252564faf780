-- What a first value is, whichever type keeps it.
use Rattle.std.specs.Prelude.{◌≡◌, ℕ, pos, Bool, true, false, List, length, refl}
use Rattle.std.specs.List.{AllZip}
use Rattle.list_laws.specs.Each.{Each}
use Rattle.col_core.specs.declared.data_type.DataType.{DataType}
use Rattle.col_core.specs.declared.data_type.PhysicalType.TheVariants as kept
use Rattle.group_reduce.specs.Zips.{AllZip-length, all_states}
use Rattle.reduce_model.specs.declared.kind.ReductionKind.TheVariants as kinds
use Rattle.reduce_states.specs.States.{State, IsState}
use Rattle.reduce_states.specs.Reductions.{Shape}
use Rattle.kept_values.specs.Kept.{number_or_null, truth_or_null, bytes_or_null, kept_number}
use Rattle.reduce_first_last.specs.Numbers.{decimal_form}
use Rattle.reduce_first_last.specs.NumberLaws.{not_a_sum}
use Rattle.any_first_last.specs.AnyFirstLasts.{IsNumbered}
use Rattle.any_first_last.specs.declared.any_first.AnyFirst.{AnyFirst}
use Rattle.any_first_last.specs.declared.any_first.AnyFirst.TheVariants.{I8, I16, I32, I64, I128, U8, U16, U32, U64, Decimal, Boolean, Bytes}

abbrev pub first_dtype : AnyFirst → DataType
first_dtype (I8 r) = r.in_dtype
first_dtype (I16 r) = r.in_dtype
first_dtype (I32 r) = r.in_dtype
first_dtype (I64 r) = r.in_dtype
first_dtype (I128 r) = r.in_dtype
first_dtype (U8 r) = r.in_dtype
first_dtype (U16 r) = r.in_dtype
first_dtype (U32 r) = r.in_dtype
first_dtype (U64 r) = r.in_dtype
first_dtype (Decimal r) = r.decimals.in_dtype
first_dtype (Boolean r) = r.in_dtype
first_dtype (Bytes r) = r.in_dtype

abbrev pub first_fixed : AnyFirst → Bool
first_fixed (Bytes r) = false
first_fixed _ = true

abbrev pub first_groups : AnyFirst → ℕ
first_groups (I8 r) = length r.values.items
first_groups (I16 r) = length r.values.items
first_groups (I32 r) = length r.values.items
first_groups (I64 r) = length r.values.items
first_groups (I128 r) = length r.values.items
first_groups (U8 r) = length r.values.items
first_groups (U16 r) = length r.values.items
first_groups (U32 r) = length r.values.items
first_groups (U64 r) = length r.values.items
first_groups (Decimal r) = length r.decimals.values.items
first_groups (Boolean r) = length r.values.items
first_groups (Bytes r) = length r.values.items

-- the representation
abbrev pub first_variant : AnyFirst → ℕ
first_variant (I8 r) = kept_number kept.I8
first_variant (I16 r) = kept_number kept.I16
first_variant (I32 r) = kept_number kept.I32
first_variant (I64 r) = kept_number kept.I64
first_variant (I128 r) = kept_number kept.I128
first_variant (U8 r) = kept_number kept.U8
first_variant (U16 r) = kept_number kept.U16
first_variant (U32 r) = kept_number kept.U32
first_variant (U64 r) = kept_number kept.U64
first_variant (Decimal r) = decimal_form
first_variant (Boolean r) = kept_number kept.Boolean
first_variant (Bytes r) = kept_number kept.Bytes

abbrev pub first_shape : AnyFirst → Shape
first_shape r = record { kind = kinds.First; dtype = first_dtype r; fixed = first_fixed r; groups = first_groups r; form = first_variant r }

abbrev pub first_holds : AnyFirst → List State → Type 0
first_holds (I8 r) xs = AllZip (IsNumbered (number_or_null (λ z. z))) r.values.items xs
first_holds (I16 r) xs = AllZip (IsNumbered (number_or_null (λ z. z))) r.values.items xs
first_holds (I32 r) xs = AllZip (IsNumbered (number_or_null (λ z. z))) r.values.items xs
first_holds (I64 r) xs = AllZip (IsNumbered (number_or_null (λ z. z))) r.values.items xs
first_holds (I128 r) xs = AllZip (IsNumbered (number_or_null (λ z. z))) r.values.items xs
first_holds (U8 r) xs = AllZip (IsNumbered (number_or_null (λ n. pos n))) r.values.items xs
first_holds (U16 r) xs = AllZip (IsNumbered (number_or_null (λ n. pos n))) r.values.items xs
first_holds (U32 r) xs = AllZip (IsNumbered (number_or_null (λ n. pos n))) r.values.items xs
first_holds (U64 r) xs = AllZip (IsNumbered (number_or_null (λ n. pos n))) r.values.items xs
first_holds (Decimal r) xs = AllZip (IsNumbered (number_or_null (λ z. z))) r.decimals.values.items xs
first_holds (Boolean r) xs = AllZip (IsNumbered truth_or_null) r.values.items xs
first_holds (Bytes r) xs = AllZip (IsNumbered bytes_or_null) r.values.items xs

pub first_length : (r : AnyFirst) (xs : List State) → first_holds r xs → length xs ≡ (first_shape r).groups
first_length (I8 r) xs h = AllZip-length (IsNumbered (number_or_null (λ z. z))) r.values.items xs h
first_length (I16 r) xs h = AllZip-length (IsNumbered (number_or_null (λ z. z))) r.values.items xs h
first_length (I32 r) xs h = AllZip-length (IsNumbered (number_or_null (λ z. z))) r.values.items xs h
first_length (I64 r) xs h = AllZip-length (IsNumbered (number_or_null (λ z. z))) r.values.items xs h
first_length (I128 r) xs h = AllZip-length (IsNumbered (number_or_null (λ z. z))) r.values.items xs h
first_length (U8 r) xs h = AllZip-length (IsNumbered (number_or_null (λ n. pos n))) r.values.items xs h
first_length (U16 r) xs h = AllZip-length (IsNumbered (number_or_null (λ n. pos n))) r.values.items xs h
first_length (U32 r) xs h = AllZip-length (IsNumbered (number_or_null (λ n. pos n))) r.values.items xs h
first_length (U64 r) xs h = AllZip-length (IsNumbered (number_or_null (λ n. pos n))) r.values.items xs h
first_length (Decimal r) xs h = AllZip-length (IsNumbered (number_or_null (λ z. z))) r.decimals.values.items xs h
first_length (Boolean r) xs h = AllZip-length (IsNumbered truth_or_null) r.values.items xs h
first_length (Bytes r) xs h = AllZip-length (IsNumbered bytes_or_null) r.values.items xs h

pub firsts_are_states : (r : AnyFirst) (xs : List State) → first_holds r xs → Each (IsState kinds.First (first_dtype r)) xs
firsts_are_states r xs h = all_states kinds.First (first_dtype r) xs (not_a_sum kinds.First refl)
