-- What a last value is, whichever type keeps it.
use Rattle.std.specs.Prelude.{◌≡◌, ℕ, pos, Bool, true, false, List, length, refl}
use Rattle.std.specs.List.{AllZip}
use Rattle.list_laws.specs.Each.{Each}
use Rattle.col_core.specs.declared.data_type.DataType.{DataType}
use Rattle.col_core.specs.declared.data_type.PhysicalType.TheVariants as kept
use Rattle.group_reduce.specs.Zips.{AllZip-length, all_states}
use Rattle.reduce_model.specs.declared.kind.ReductionKind.TheVariants as kinds
use Rattle.reduce_states.specs.States.{State, IsState}
use Rattle.reduce_states.specs.Reductions.{Shape}
use Rattle.kept_values.specs.Kept.{number_or_null, truth_or_null, bytes_or_null, kept_number}
use Rattle.reduce_first_last.specs.Numbers.{decimal_form}
use Rattle.reduce_first_last.specs.NumberLaws.{not_a_sum}
use Rattle.any_first_last.specs.AnyFirstLasts.{IsNumbered}
use Rattle.any_first_last.specs.declared.any_last.AnyLast.{AnyLast}
use Rattle.any_first_last.specs.declared.any_last.AnyLast.TheVariants.{I8, I16, I32, I64, I128, U8, U16, U32, U64, Decimal, Boolean, Bytes}

abbrev pub last_dtype : AnyLast → DataType
last_dtype (I8 r) = r.in_dtype
last_dtype (I16 r) = r.in_dtype
last_dtype (I32 r) = r.in_dtype
last_dtype (I64 r) = r.in_dtype
last_dtype (I128 r) = r.in_dtype
last_dtype (U8 r) = r.in_dtype
last_dtype (U16 r) = r.in_dtype
last_dtype (U32 r) = r.in_dtype
last_dtype (U64 r) = r.in_dtype
last_dtype (Decimal r) = r.decimals.in_dtype
last_dtype (Boolean r) = r.in_dtype
last_dtype (Bytes r) = r.in_dtype

abbrev pub last_fixed : AnyLast → Bool
last_fixed (Bytes r) = false
last_fixed _ = true

abbrev pub last_groups : AnyLast → ℕ
last_groups (I8 r) = length r.values.items
last_groups (I16 r) = length r.values.items
last_groups (I32 r) = length r.values.items
last_groups (I64 r) = length r.values.items
last_groups (I128 r) = length r.values.items
last_groups (U8 r) = length r.values.items
last_groups (U16 r) = length r.values.items
last_groups (U32 r) = length r.values.items
last_groups (U64 r) = length r.values.items
last_groups (Decimal r) = length r.decimals.values.items
last_groups (Boolean r) = length r.values.items
last_groups (Bytes r) = length r.values.items

-- the representation
abbrev pub last_variant : AnyLast → ℕ
last_variant (I8 r) = kept_number kept.I8
last_variant (I16 r) = kept_number kept.I16
last_variant (I32 r) = kept_number kept.I32
last_variant (I64 r) = kept_number kept.I64
last_variant (I128 r) = kept_number kept.I128
last_variant (U8 r) = kept_number kept.U8
last_variant (U16 r) = kept_number kept.U16
last_variant (U32 r) = kept_number kept.U32
last_variant (U64 r) = kept_number kept.U64
last_variant (Decimal r) = decimal_form
last_variant (Boolean r) = kept_number kept.Boolean
last_variant (Bytes r) = kept_number kept.Bytes

abbrev pub last_shape : AnyLast → Shape
last_shape r = record { kind = kinds.Last; dtype = last_dtype r; fixed = last_fixed r; groups = last_groups r; form = last_variant r }

abbrev pub last_holds : AnyLast → List State → Type 0
last_holds (I8 r) xs = AllZip (IsNumbered (number_or_null (λ z. z))) r.values.items xs
last_holds (I16 r) xs = AllZip (IsNumbered (number_or_null (λ z. z))) r.values.items xs
last_holds (I32 r) xs = AllZip (IsNumbered (number_or_null (λ z. z))) r.values.items xs
last_holds (I64 r) xs = AllZip (IsNumbered (number_or_null (λ z. z))) r.values.items xs
last_holds (I128 r) xs = AllZip (IsNumbered (number_or_null (λ z. z))) r.values.items xs
last_holds (U8 r) xs = AllZip (IsNumbered (number_or_null (λ n. pos n))) r.values.items xs
last_holds (U16 r) xs = AllZip (IsNumbered (number_or_null (λ n. pos n))) r.values.items xs
last_holds (U32 r) xs = AllZip (IsNumbered (number_or_null (λ n. pos n))) r.values.items xs
last_holds (U64 r) xs = AllZip (IsNumbered (number_or_null (λ n. pos n))) r.values.items xs
last_holds (Decimal r) xs = AllZip (IsNumbered (number_or_null (λ z. z))) r.decimals.values.items xs
last_holds (Boolean r) xs = AllZip (IsNumbered truth_or_null) r.values.items xs
last_holds (Bytes r) xs = AllZip (IsNumbered bytes_or_null) r.values.items xs

pub last_length : (r : AnyLast) (xs : List State) → last_holds r xs → length xs ≡ (last_shape r).groups
last_length (I8 r) xs h = AllZip-length (IsNumbered (number_or_null (λ z. z))) r.values.items xs h
last_length (I16 r) xs h = AllZip-length (IsNumbered (number_or_null (λ z. z))) r.values.items xs h
last_length (I32 r) xs h = AllZip-length (IsNumbered (number_or_null (λ z. z))) r.values.items xs h
last_length (I64 r) xs h = AllZip-length (IsNumbered (number_or_null (λ z. z))) r.values.items xs h
last_length (I128 r) xs h = AllZip-length (IsNumbered (number_or_null (λ z. z))) r.values.items xs h
last_length (U8 r) xs h = AllZip-length (IsNumbered (number_or_null (λ n. pos n))) r.values.items xs h
last_length (U16 r) xs h = AllZip-length (IsNumbered (number_or_null (λ n. pos n))) r.values.items xs h
last_length (U32 r) xs h = AllZip-length (IsNumbered (number_or_null (λ n. pos n))) r.values.items xs h
last_length (U64 r) xs h = AllZip-length (IsNumbered (number_or_null (λ n. pos n))) r.values.items xs h
last_length (Decimal r) xs h = AllZip-length (IsNumbered (number_or_null (λ z. z))) r.decimals.values.items xs h
last_length (Boolean r) xs h = AllZip-length (IsNumbered truth_or_null) r.values.items xs h
last_length (Bytes r) xs h = AllZip-length (IsNumbered bytes_or_null) r.values.items xs h

pub lasts_are_states : (r : AnyLast) (xs : List State) → last_holds r xs → Each (IsState kinds.Last (last_dtype r)) xs
lasts_are_states r xs h = all_states kinds.Last (last_dtype r) xs (not_a_sum kinds.Last refl)
