-- States of truth values.
use Rattle.std.specs.Prelude.{◌≡◌, Bool, Option, List, length}
use Rattle.std.proofs.Common.{ap, ◌∙◌}
use Rattle.std.proofs.lemmas.List.{length-map}
use Rattle.reduce_states.specs.States.{State}
use Rattle.reduce_min_max.specs.Truths.{truth_state, truth_states}

-- there is one for each truth value
pub truths_long : (truths : List (Option Bool)) (xs : List State) → xs ≡ truth_states truths → length xs ≡ length truths
truths_long truths xs h = ap length h ∙ length-map truths truth_state
