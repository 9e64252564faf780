-- Values that are kept with a number: one above the sequence number by which they entered, and 0 where nothing entered.
use Rattle.std.specs.Prelude.{ℕ, zero, suc, ◌+◌, ◌-◌, ◌%◌, ◌^◌, Bool, true, false, nat_lt, nat_le, Some, None}
use Rattle.col_core.specs.declared.leaf.Leaf.{Leaf}
use Rattle.col_core.specs.declared.data_type.DataType.{DataType}
use Rattle.col_core.specs.declared.data_type.DataType.TheVariants as types
use Rattle.reduce_model.specs.declared.kind.ReductionKind.{ReductionKind}
use Rattle.reduce_model.specs.declared.kind.ReductionKind.TheVariants as kinds
use Rattle.reduce_states.specs.States.{State}

-- the kinds that go by number
abbrev pub goes_by_number : ReductionKind → Bool
goes_by_number kinds.First = true
goes_by_number kinds.Last = true
goes_by_number _ = false

-- the number before, wrapping in 64 bits
abbrev pub number_before : ℕ → ℕ
number_before n = (n + (2 ^ 64 - 1)) % 2 ^ 64

-- a value with a number takes the place of one with another
abbrev pub replaces : ReductionKind → ℕ → ℕ → Bool
replaces kinds.Last new old = nat_le old new
replaces _ new old = nat_lt (number_before new) (number_before old)

-- the place of the value that is kept of so many
abbrev pub kept_place : ReductionKind → ℕ → ℕ
kept_place kinds.Last len = len - 1
kept_place _ len = 0

-- the state of a value with its number
abbrev pub numbered_state : ℕ → Leaf → State
numbered_state zero v = None
numbered_state (suc n) v = Some (record { number = n; value = v })

-- the types of decimals
abbrev pub is_decimal : DataType → Bool
is_decimal (types.Decimal p s) = true
is_decimal _ = false

-- the representation of decimals, which no way in which values are kept has for its number
abbrev pub decimal_form : ℕ
decimal_form = 11
