-- How the totals of sums are kept, and what they are as states.
use Rattle.std.specs.Prelude.{◌≡◌, ℕ, ℤ, Bool, true, false, List, [], ◌∷◌, map, length}
use Rattle.std.proofs.Common.{sym, ap, subst, ◌∙◌}
use Rattle.std.proofs.lemmas.List.{length-map}
use Rattle.std.specs.Int.{w32, w64, w128}
use Rattle.num_traits.specs.Laws.{wrap_signed, wrap_unsigned}
use Rattle.list_laws.specs.Each.{Each}
use Rattle.col_core.specs.declared.data_type.DataType.{DataType}
use Rattle.col_core.specs.declared.data_type.PhysicalType.{PhysicalType}
use Rattle.col_core.specs.declared.data_type.PhysicalType.TheVariants as kept
use Rattle.col_core.specs.Physical.{physical_of}
use Rattle.reduce_model.specs.declared.kind.ReductionKind.TheVariants.{Sum}
use Rattle.reduce_model.specs.Folds.{reduced_type, wrap_in}
use Rattle.reduce_states.specs.States.{State, IsState, total}
use Rattle.reduce_states.proofs.Merged.{IsState-total}

-- the totals over a column type are kept as the values of what the sum gives
abbrev pub kept_as : DataType → PhysicalType
kept_as t = physical_of (reduced_type Sum t)

-- whole numbers, and not truth values or bytes
abbrev pub is_whole : PhysicalType → Bool
is_whole kept.Boolean = false
is_whole kept.Bytes = false
is_whole _ = true

-- what is left of a total that is kept so
abbrev pub wrap_as : PhysicalType → ℤ → ℤ
wrap_as kept.I32 z = wrap_signed w32 z
wrap_as kept.U32 z = wrap_unsigned 32 z
wrap_as kept.U64 z = wrap_unsigned 64 z
wrap_as kept.I128 z = wrap_signed w128 z
wrap_as _ z = wrap_signed w64 z

-- a number for each way in which totals are kept
abbrev pub form_of : PhysicalType → ℕ
form_of kept.I32 = 0
form_of kept.U32 = 1
form_of kept.I64 = 2
form_of kept.U64 = 3
form_of kept.I128 = 4
form_of _ = 5

-- sums over a column type wrap so
abbrev pub WrapsAs : (ℤ → ℤ) → DataType → Type 0
WrapsAs wrap t = (z : ℤ) → wrap_in t z ≡ wrap z

-- totals as states, given which whole number each is
abbrev pub total_states : {T : Type 0} → (T → ℤ) → DataType → List T → List State
total_states value t totals = map (λ x. total t (value x)) totals

pub total_states_length : {T : Type 0} (value : T → ℤ) (t : DataType) (totals : List T) (xs : List State) → xs ≡ total_states value t totals → length xs ≡ length totals
total_states_length value t totals xs h = ap length h ∙ length-map totals (λ x. total t (value x))

-- the state of nothing is neutral for them
pub totals_are_states : {T : Type 0} (value : T → ℤ) (t : DataType) (totals : List T) (xs : List State) → xs ≡ total_states value t totals → Each (IsState Sum t) xs
totals_are_states value t totals xs h = subst (Each (IsState Sum t)) (sym h) (all_states totals)
  where
    all_states : (totals : List _) → Each (IsState Sum t) (total_states value t totals)
    all_states [] = tt
    all_states (x ∷ totals) = (IsState-total t (value x), all_states totals)
