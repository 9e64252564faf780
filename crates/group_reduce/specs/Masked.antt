-- Kept values, each with a bit.
use Rattle.std.specs.Prelude.{◌≡◌, Bool, true, false, List, is_some}
use Rattle.std.specs.List.{AllZip}
use Rattle.reduce_model.specs.declared.kind.ReductionKind.{ReductionKind}
use Rattle.reduce_model.specs.declared.kind.ReductionKind.TheVariants as kinds
use Rattle.reduce_states.specs.States.{State}

-- the kinds that skip nulls
abbrev pub skips_nulls : ReductionKind → Bool
skips_nulls kinds.Min = true
skips_nulls kinds.Max = true
skips_nulls _ = false

-- kept values stand for states, and the bit of each tells whether its state is something
pub record AreMasked {V : Type 0} (stands : V → State → Type 0) (values : List V) (bits : List Bool) (xs : List State) : Type 0 where
  pub stand : AllZip stands values xs
  pub tell : AllZip (λ bit x. bit ≡ is_some x) bits xs
