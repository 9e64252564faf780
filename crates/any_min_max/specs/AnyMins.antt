-- What the least of values is, whichever type they have.
use Rattle.std.specs.Prelude.{◌≡◌, ℕ, pos, Bool, true, false, List, length, refl}
use Rattle.list_laws.specs.Each.{Each}
use Rattle.col_core.specs.declared.data_type.DataType.{DataType}
use Rattle.col_core.specs.declared.data_type.DataType.TheVariants as types
use Rattle.col_core.specs.declared.data_type.PhysicalType.TheVariants as kept
use Rattle.group_reduce.specs.Zips.{all_states}
use Rattle.reduce_model.specs.declared.kind.ReductionKind.TheVariants as kinds
use Rattle.reduce_states.specs.States.{State, IsState}
use Rattle.reduce_states.specs.Reductions.{Shape}
use Rattle.kept_values.specs.Kept.{kept_number}
use Rattle.reduce_min_max.specs.BestLaws.{not_a_sum}
use Rattle.reduce_min_max.specs.Truths.{truth_states}
use Rattle.reduce_min_max.specs.TruthLaws.{truths_long}
use Rattle.any_min_max.specs.declared.any_min.AnyMin.{AnyMin}
use Rattle.any_min_max.specs.declared.any_min.AnyMin.TheVariants.{Boolean, I8, I16, I32, I64, I128, U8, U16, U32, U64, Bytes}
use Rattle.any_min_max.specs.KeptBests.{highest, NumbersHold, BytesHold, numbers_length, bytes_length}

abbrev pub min_dtype : AnyMin → DataType
min_dtype (Boolean r) = types.Boolean
min_dtype (I8 r) = r.in_dtype
min_dtype (I16 r) = r.in_dtype
min_dtype (I32 r) = r.in_dtype
min_dtype (I64 r) = r.in_dtype
min_dtype (I128 r) = r.in_dtype
min_dtype (U8 r) = r.in_dtype
min_dtype (U16 r) = r.in_dtype
min_dtype (U32 r) = r.in_dtype
min_dtype (U64 r) = r.in_dtype
min_dtype (Bytes r) = r.in_dtype

-- bytes alone want memory
abbrev pub min_fixed : AnyMin → Bool
min_fixed (Bytes r) = false
min_fixed _ = true

abbrev pub min_groups : AnyMin → ℕ
min_groups (Boolean r) = length r.truths
min_groups (I8 r) = length r.values.items
min_groups (I16 r) = length r.values.items
min_groups (I32 r) = length r.values.items
min_groups (I64 r) = length r.values.items
min_groups (I128 r) = length r.values.items
min_groups (U8 r) = length r.values.items
min_groups (U16 r) = length r.values.items
min_groups (U32 r) = length r.values.items
min_groups (U64 r) = length r.values.items
min_groups (Bytes r) = length r.values.items

abbrev pub min_form : AnyMin → ℕ
min_form (Boolean r) = kept_number kept.Boolean
min_form (I8 r) = kept_number kept.I8
min_form (I16 r) = kept_number kept.I16
min_form (I32 r) = kept_number kept.I32
min_form (I64 r) = kept_number kept.I64
min_form (I128 r) = kept_number kept.I128
min_form (U8 r) = kept_number kept.U8
min_form (U16 r) = kept_number kept.U16
min_form (U32 r) = kept_number kept.U32
min_form (U64 r) = kept_number kept.U64
min_form (Bytes r) = kept_number kept.Bytes

abbrev pub min_shape : AnyMin → Shape
min_shape r = record { kind = kinds.Min; dtype = min_dtype r; fixed = min_fixed r; groups = min_groups r; form = min_form r }

abbrev pub min_holds : AnyMin → List State → Type 0
min_holds (Boolean r) xs = xs ≡ truth_states r.truths
min_holds (I8 r) xs = NumbersHold (highest kept.I8) (λ z. z) r.values.items r.mask xs
min_holds (I16 r) xs = NumbersHold (highest kept.I16) (λ z. z) r.values.items r.mask xs
min_holds (I32 r) xs = NumbersHold (highest kept.I32) (λ z. z) r.values.items r.mask xs
min_holds (I64 r) xs = NumbersHold (highest kept.I64) (λ z. z) r.values.items r.mask xs
min_holds (I128 r) xs = NumbersHold (highest kept.I128) (λ z. z) r.values.items r.mask xs
min_holds (U8 r) xs = NumbersHold (highest kept.U8) (λ n. pos n) r.values.items r.mask xs
min_holds (U16 r) xs = NumbersHold (highest kept.U16) (λ n. pos n) r.values.items r.mask xs
min_holds (U32 r) xs = NumbersHold (highest kept.U32) (λ n. pos n) r.values.items r.mask xs
min_holds (U64 r) xs = NumbersHold (highest kept.U64) (λ n. pos n) r.values.items r.mask xs
min_holds (Bytes r) xs = BytesHold r.values.items xs

pub min_length : (r : AnyMin) (xs : List State) → min_holds r xs → length xs ≡ (min_shape r).groups
min_length (Boolean r) xs h = truths_long r.truths xs h
min_length (I8 r) xs h = numbers_length (highest kept.I8) (λ z. z) r.values.items r.mask xs h
min_length (I16 r) xs h = numbers_length (highest kept.I16) (λ z. z) r.values.items r.mask xs h
min_length (I32 r) xs h = numbers_length (highest kept.I32) (λ z. z) r.values.items r.mask xs h
min_length (I64 r) xs h = numbers_length (highest kept.I64) (λ z. z) r.values.items r.mask xs h
min_length (I128 r) xs h = numbers_length (highest kept.I128) (λ z. z) r.values.items r.mask xs h
min_length (U8 r) xs h = numbers_length (highest kept.U8) (λ n. pos n) r.values.items r.mask xs h
min_length (U16 r) xs h = numbers_length (highest kept.U16) (λ n. pos n) r.values.items r.mask xs h
min_length (U32 r) xs h = numbers_length (highest kept.U32) (λ n. pos n) r.values.items r.mask xs h
min_length (U64 r) xs h = numbers_length (highest kept.U64) (λ n. pos n) r.values.items r.mask xs h
min_length (Bytes r) xs h = bytes_length r.values.items xs h

pub mins_are_states : (r : AnyMin) (xs : List State) → min_holds r xs → Each (IsState kinds.Min (min_dtype r)) xs
mins_are_states r xs h = all_states kinds.Min (min_dtype r) xs (not_a_sum kinds.Min refl)
