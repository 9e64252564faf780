-- Plans: whole numbers, each with a default.
use Rattle.std.specs.Prelude.{ℕ, List, [], ◌∷◌, codes, Option, Some}
use Rattle.serde_json.specs.Data.{Data}
use Rattle.serde_json.specs.Find.{get, as_number, as_u64}
use Rattle.join_query.specs.declared.query.Plan.{Plan}
use Rattle.join_query.specs.declared.limits.TheConstants.{DEFAULT_PLAN}
use Rattle.join_request.specs.Json.{◌>>=◌, object_of, or_default}

-- a JSON integer from 0 to 2^64 - 1
abbrev pub number_of_value : Data → Option ℕ
number_of_value d = as_number d >>= as_u64

-- the number of a member of a plan, or its default
abbrev pub number_or : ℕ → List ℕ → Data → Option ℕ
number_or default name plan = or_default default number_of_value (get name plan)

-- a plan: an object of such numbers, each of which may be missing
abbrev pub plan_of_value : Data → Option Plan
plan_of_value d = do
  plan ← object_of (codes "partitions" ∷ codes "states" ∷ codes "limit" ∷ codes "morsel" ∷ codes "rows" ∷ codes "seed" ∷ codes "mask" ∷ codes "pseed" ∷ []) d
  partitions ← number_or DEFAULT_PLAN.partitions (codes "partitions") plan
  states ← number_or DEFAULT_PLAN.states (codes "states") plan
  limit ← number_or DEFAULT_PLAN.limit (codes "limit") plan
  morsel ← number_or DEFAULT_PLAN.morsel (codes "morsel") plan
  rows ← number_or DEFAULT_PLAN.rows (codes "rows") plan
  seed ← number_or DEFAULT_PLAN.seed (codes "seed") plan
  mask ← number_or DEFAULT_PLAN.mask (codes "mask") plan
  pseed ← number_or DEFAULT_PLAN.pseed (codes "pseed") plan
  Some (record { partitions = partitions; states = states; limit = limit; morsel = morsel; rows = rows; seed = seed; mask = mask; pseed = pseed })
