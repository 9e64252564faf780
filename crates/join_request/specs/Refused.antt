-- Why a part of a request is not read.
use Rattle.std.specs.Prelude.{◌≡◌, ◌⊎◌, Option, None}
use Rattle.join_request.specs.declared.error.RequestError.{RequestError}
use Rattle.join_request.specs.declared.error.RequestError.TheVariants.{Memory, Shape}

-- memory was wanting, or the value is no such part
abbrev pub Refuses : {A : Type 0} → Option A → RequestError → Type 0
Refuses part e = (e ≡ Memory) ⊎ ((e ≡ Shape) × (part ≡ None))
