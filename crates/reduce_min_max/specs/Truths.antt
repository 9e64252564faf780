-- Truth values, of which some are missing.
use Rattle.std.specs.Prelude.{ℕ, Bool, cond, Option, Some, None, List, [], ◌∷◌, map}
use Rattle.reduce_states.specs.States.{State, present}
use Rattle.col_core.specs.declared.data_type.PhysicalType.TheVariants as kept
use Rattle.kept_values.specs.Kept.{truth_or_null, kept_number}

-- what bits of values and of presence hold: a value where its bit of presence is set. Bits of values past those of presence mean nothing
abbrev pub optional_bits : List Bool → List Bool → List (Option Bool)
optional_bits [] mask = []
optional_bits (v ∷ values) [] = []
optional_bits (v ∷ values) (m ∷ mask) = cond m (Some v) None ∷ optional_bits values mask

-- the states of truth values, and of none where one is missing
abbrev pub truth_state : Option Bool → State
truth_state truth = present (truth_or_null truth)

abbrev pub truth_states : List (Option Bool) → List State
truth_states truths = map truth_state truths

-- the representation of truth values
abbrev pub truth_form : ℕ
truth_form = kept_number kept.Boolean
