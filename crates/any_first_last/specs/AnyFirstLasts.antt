-- What first and last share.
use Rattle.std.specs.Prelude.{◌≡◌, ℕ}
use Rattle.col_core.specs.declared.leaf.Leaf.{Leaf}
use Rattle.col_core.specs.declared.data_type.DataType.{DataType}
use Rattle.col_core.specs.declared.data_type.DataType.TheVariants as types
use Rattle.col_core.specs.Physical.{physical_of}
use Rattle.reduce_states.specs.States.{State}
use Rattle.kept_values.specs.Kept.{kept_number}
use Rattle.reduce_first_last.specs.declared.kept.Numbered.{Numbered}
use Rattle.reduce_first_last.specs.Numbers.{numbered_state, decimal_form}

-- the representation of the first or last values of a column type
abbrev pub first_form : DataType → ℕ
first_form (types.Decimal p s) = decimal_form
first_form t = kept_number (physical_of t)

-- a kept value stands for the state of its number
abbrev pub IsNumbered : {V : Type 0} → (V → Leaf) → Numbered V → State → Type 0
IsNumbered leaf v x = x ≡ numbered_state v.number (leaf v.value)
