-- What the greatest of values is, whichever type they have.
use Rattle.std.specs.Prelude.{◌≡◌, ℕ, pos, Bool, true, false, List, length, refl}
use Rattle.list_laws.specs.Each.{Each}
use Rattle.col_core.specs.declared.data_type.DataType.{DataType}
use Rattle.col_core.specs.declared.data_type.DataType.TheVariants as types
use Rattle.col_core.specs.declared.data_type.PhysicalType.TheVariants as kept
use Rattle.group_reduce.specs.Zips.{all_states}
use Rattle.reduce_model.specs.declared.kind.ReductionKind.TheVariants as kinds
use Rattle.reduce_states.specs.States.{State, IsState}
use Rattle.reduce_states.specs.Reductions.{Shape}
use Rattle.kept_values.specs.Kept.{kept_number}
use Rattle.reduce_min_max.specs.BestLaws.{not_a_sum}
use Rattle.reduce_min_max.specs.Truths.{truth_states}
use Rattle.reduce_min_max.specs.TruthLaws.{truths_long}
use Rattle.any_min_max.specs.declared.any_max.AnyMax.{AnyMax}
use Rattle.any_min_max.specs.declared.any_max.AnyMax.TheVariants.{Boolean, I8, I16, I32, I64, I128, U8, U16, U32, U64, Bytes}
use Rattle.any_min_max.specs.KeptBests.{lowest, NumbersHold, BytesHold, numbers_length, bytes_length}

abbrev pub max_dtype : AnyMax → DataType
max_dtype (Boolean r) = types.Boolean
max_dtype (I8 r) = r.in_dtype
max_dtype (I16 r) = r.in_dtype
max_dtype (I32 r) = r.in_dtype
max_dtype (I64 r) = r.in_dtype
max_dtype (I128 r) = r.in_dtype
max_dtype (U8 r) = r.in_dtype
max_dtype (U16 r) = r.in_dtype
max_dtype (U32 r) = r.in_dtype
max_dtype (U64 r) = r.in_dtype
max_dtype (Bytes r) = r.in_dtype

-- bytes alone want memory
abbrev pub max_fixed : AnyMax → Bool
max_fixed (Bytes r) = false
max_fixed _ = true

abbrev pub max_groups : AnyMax → ℕ
max_groups (Boolean r) = length r.truths
max_groups (I8 r) = length r.values.items
max_groups (I16 r) = length r.values.items
max_groups (I32 r) = length r.values.items
max_groups (I64 r) = length r.values.items
max_groups (I128 r) = length r.values.items
max_groups (U8 r) = length r.values.items
max_groups (U16 r) = length r.values.items
max_groups (U32 r) = length r.values.items
max_groups (U64 r) = length r.values.items
max_groups (Bytes r) = length r.values.items

abbrev pub max_form : AnyMax → ℕ
max_form (Boolean r) = kept_number kept.Boolean
max_form (I8 r) = kept_number kept.I8
max_form (I16 r) = kept_number kept.I16
max_form (I32 r) = kept_number kept.I32
max_form (I64 r) = kept_number kept.I64
max_form (I128 r) = kept_number kept.I128
max_form (U8 r) = kept_number kept.U8
max_form (U16 r) = kept_number kept.U16
max_form (U32 r) = kept_number kept.U32
max_form (U64 r) = kept_number kept.U64
max_form (Bytes r) = kept_number kept.Bytes

abbrev pub max_shape : AnyMax → Shape
max_shape r = record { kind = kinds.Max; dtype = max_dtype r; fixed = max_fixed r; groups = max_groups r; form = max_form r }

abbrev pub max_holds : AnyMax → List State → Type 0
max_holds (Boolean r) xs = xs ≡ truth_states r.truths
max_holds (I8 r) xs = NumbersHold (lowest kept.I8) (λ z. z) r.values.items r.mask xs
max_holds (I16 r) xs = NumbersHold (lowest kept.I16) (λ z. z) r.values.items r.mask xs
max_holds (I32 r) xs = NumbersHold (lowest kept.I32) (λ z. z) r.values.items r.mask xs
max_holds (I64 r) xs = NumbersHold (lowest kept.I64) (λ z. z) r.values.items r.mask xs
max_holds (I128 r) xs = NumbersHold (lowest kept.I128) (λ z. z) r.values.items r.mask xs
max_holds (U8 r) xs = NumbersHold (lowest kept.U8) (λ n. pos n) r.values.items r.mask xs
max_holds (U16 r) xs = NumbersHold (lowest kept.U16) (λ n. pos n) r.values.items r.mask xs
max_holds (U32 r) xs = NumbersHold (lowest kept.U32) (λ n. pos n) r.values.items r.mask xs
max_holds (U64 r) xs = NumbersHold (lowest kept.U64) (λ n. pos n) r.values.items r.mask xs
max_holds (Bytes r) xs = BytesHold r.values.items xs

pub max_length : (r : AnyMax) (xs : List State) → max_holds r xs → length xs ≡ (max_shape r).groups
max_length (Boolean r) xs h = truths_long r.truths xs h
max_length (I8 r) xs h = numbers_length (lowest kept.I8) (λ z. z) r.values.items r.mask xs h
max_length (I16 r) xs h = numbers_length (lowest kept.I16) (λ z. z) r.values.items r.mask xs h
max_length (I32 r) xs h = numbers_length (lowest kept.I32) (λ z. z) r.values.items r.mask xs h
max_length (I64 r) xs h = numbers_length (lowest kept.I64) (λ z. z) r.values.items r.mask xs h
max_length (I128 r) xs h = numbers_length (lowest kept.I128) (λ z. z) r.values.items r.mask xs h
max_length (U8 r) xs h = numbers_length (lowest kept.U8) (λ n. pos n) r.values.items r.mask xs h
max_length (U16 r) xs h = numbers_length (lowest kept.U16) (λ n. pos n) r.values.items r.mask xs h
max_length (U32 r) xs h = numbers_length (lowest kept.U32) (λ n. pos n) r.values.items r.mask xs h
max_length (U64 r) xs h = numbers_length (lowest kept.U64) (λ n. pos n) r.values.items r.mask xs h
max_length (Bytes r) xs h = bytes_length r.values.items xs h

pub maxes_are_states : (r : AnyMax) (xs : List State) → max_holds r xs → Each (IsState kinds.Max (max_dtype r)) xs
maxes_are_states r xs h = all_states kinds.Max (max_dtype r) xs (not_a_sum kinds.Max refl)
