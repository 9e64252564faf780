-- How the least or greatest of values is kept.
use Rattle.std.specs.Prelude.{◌≡◌, ◌-◌, ◌^◌, ℕ, ℤ, pos, negsuc, Bool, Option, List, length}
use Rattle.std.specs.List.{AllZip}
use Rattle.col_core.specs.declared.data_type.PhysicalType.{PhysicalType}
use Rattle.col_core.specs.declared.data_type.PhysicalType.TheVariants as kept
use Rattle.group_reduce.specs.Masked.{AreMasked}
use Rattle.group_reduce.specs.Zips.{AllZip-length}
use Rattle.reduce_states.specs.States.{State, present}
use Rattle.kept_values.specs.Kept.{bytes_or_null}
use Rattle.reduce_min_max.specs.Best.{IsBestSoFar}

-- the greatest number of a type, from which the least is found
abbrev pub highest : PhysicalType → ℤ
highest kept.I8 = pos (2 ^ 7 - 1)
highest kept.I16 = pos (2 ^ 15 - 1)
highest kept.I32 = pos (2 ^ 31 - 1)
highest kept.I64 = pos (2 ^ 63 - 1)
highest kept.I128 = pos (2 ^ 127 - 1)
highest kept.U8 = pos (2 ^ 8 - 1)
highest kept.U16 = pos (2 ^ 16 - 1)
highest kept.U32 = pos (2 ^ 32 - 1)
highest kept.U64 = pos (2 ^ 64 - 1)
highest _ = pos 0

-- the least number of a type, from which the greatest is found
abbrev pub lowest : PhysicalType → ℤ
lowest kept.I8 = negsuc (2 ^ 7 - 1)
lowest kept.I16 = negsuc (2 ^ 15 - 1)
lowest kept.I32 = negsuc (2 ^ 31 - 1)
lowest kept.I64 = negsuc (2 ^ 63 - 1)
lowest kept.I128 = negsuc (2 ^ 127 - 1)
lowest _ = pos 0

-- numbers stand for states, and the bit of each tells whether its state is something
abbrev pub NumbersHold : {V : Type 0} → ℤ → (V → ℤ) → List V → List Bool → List State → Type 0
NumbersHold start value values bits xs = AreMasked (λ v x. IsBestSoFar start (value v) x) values bits xs

-- bytes, some of which are missing, stand for states
abbrev pub BytesHold : List (Option (List ℕ)) → List State → Type 0
BytesHold values xs = AllZip (λ v x. x ≡ present (bytes_or_null v)) values xs

pub numbers_length : {V : Type 0} (start : ℤ) (value : V → ℤ) (values : List V) (bits : List Bool) (xs : List State) → NumbersHold start value values bits xs → length xs ≡ length values
numbers_length start value values bits xs h = AllZip-length (λ v x. IsBestSoFar start (value v) x) values xs h.stand

pub bytes_length : (values : List (Option (List ℕ))) (xs : List State) → BytesHold values xs → length xs ≡ length values
bytes_length values xs h = AllZip-length (λ v x. x ≡ present (bytes_or_null v)) values xs h
