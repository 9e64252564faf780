use Rattle.std.proofs.Common.{◌≡◌, drop}
use Rattle.join_model.specs.Refusals.{repeats_name}
use Rattle.query_check.proofs.schemas.repeats_name.Given as goal

-- what is left decides
abbrev pub invariant-loop-i : goal.invariant-loop-i
invariant-loop-i l = repeats_name l.fields ≡ repeats_name (drop l.i l.fields)
