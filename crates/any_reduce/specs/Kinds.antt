-- What a reduction is, whichever kind it has.
use Rattle.std.specs.Prelude.{◌≡◌, ℕ, Bool, true, not, List, length}
use Rattle.list_laws.specs.Each.{Each}
use Rattle.col_core.specs.declared.data_type.DataType.{DataType}
use Rattle.col_core.specs.declared.data_type.PhysicalType.TheVariants as kept
use Rattle.col_core.specs.Physical.{physical_of}
use Rattle.reduce_model.specs.declared.kind.ReductionKind.{ReductionKind}
use Rattle.reduce_model.specs.declared.kind.ReductionKind.TheVariants as kinds
use Rattle.reduce_states.specs.States.{State, IsState}
use Rattle.reduce_states.specs.Reductions.{Shape}
use Rattle.kept_values.specs.Kept.{is_kept_as, kept_number}
use Rattle.reduce_sum.specs.Sums.{kept_as, form_of}
use Rattle.reduce_sum.specs.AnySums.{sum_shape, sum_holds, sum_length, sums_are_states}
use Rattle.any_min_max.specs.AnyMins.{min_shape, min_holds, min_length, mins_are_states}
use Rattle.any_min_max.specs.AnyMaxes.{max_shape, max_holds, max_length, maxes_are_states}
use Rattle.any_first_last.specs.AnyFirstLasts.{first_form}
use Rattle.any_first_last.specs.AnyFirsts.{first_shape, first_holds, first_length, firsts_are_states}
use Rattle.any_first_last.specs.AnyLasts.{last_shape, last_holds, last_length, lasts_are_states}
use Rattle.any_reduce.specs.declared.any.AnyReduction.{AnyReduction}
use Rattle.any_reduce.specs.declared.any.AnyReduction.TheVariants.{Sum, Min, Max, First, Last}

abbrev pub any_shape : AnyReduction → Shape
any_shape (Sum r) = sum_shape r
any_shape (Min r) = min_shape r
any_shape (Max r) = max_shape r
any_shape (First r) = first_shape r
any_shape (Last r) = last_shape r

abbrev pub any_holds : AnyReduction → List State → Type 0
any_holds (Sum r) xs = sum_holds r xs
any_holds (Min r) xs = min_holds r xs
any_holds (Max r) xs = max_holds r xs
any_holds (First r) xs = first_holds r xs
any_holds (Last r) xs = last_holds r xs

pub any_length : (r : AnyReduction) (xs : List State) → any_holds r xs → length xs ≡ (any_shape r).groups
any_length (Sum r) xs h = sum_length r xs h
any_length (Min r) xs h = min_length r xs h
any_length (Max r) xs h = max_length r xs h
any_length (First r) xs h = first_length r xs h
any_length (Last r) xs h = last_length r xs h

pub any_are_states : (r : AnyReduction) (xs : List State) → any_holds r xs → Each (IsState (any_shape r).kind (any_shape r).dtype) xs
any_are_states (Sum r) xs h = sums_are_states r xs h
any_are_states (Min r) xs h = mins_are_states r xs h
any_are_states (Max r) xs h = maxes_are_states r xs h
any_are_states (First r) xs h = firsts_are_states r xs h
any_are_states (Last r) xs h = lasts_are_states r xs h

-- the kind and the column type determine how states are kept
abbrev pub kind_form : ReductionKind → DataType → ℕ
kind_form kinds.Sum t = form_of (kept_as t)
kind_form kinds.Min t = kept_number (physical_of t)
kind_form kinds.Max t = kept_number (physical_of t)
kind_form kinds.First t = first_form t
kind_form kinds.Last t = first_form t

-- no memory is wanted for a value: not so for texts and bytes, which alone vary in length
abbrev pub kind_fixed : ReductionKind → DataType → Bool
kind_fixed kinds.Sum t = true
kind_fixed _ t = not (is_kept_as kept.Bytes t)

-- the shape of a reduction of a kind over a column type, without groups
abbrev pub new_shape : ReductionKind → DataType → Shape
new_shape kind t = record { kind = kind; dtype = t; fixed = kind_fixed kind t; groups = 0; form = kind_form kind t }
