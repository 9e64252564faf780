-- Build rows that no probe row joins.
use Rattle.std.specs.Prelude.{Bool, true, not, Option, Some, None}

-- a build row is of a null key, or of a key that is not marked
abbrev pub is_outer : {K : Type 0} → (K → Bool) → Option K → Bool
is_outer marked None = true
is_outer marked (Some k) = not (marked k)
