use Rattle.std.proofs.Common.{◌≡◌, drop}
use Rattle.join_model.specs.Refusals.{have_same_types}
use Rattle.query_check.proofs.schemas.have_same_types.Given as goal

-- what is left decides
abbrev pub invariant-loop-i : goal.invariant-loop-i
invariant-loop-i l = have_same_types l.build (drop l.i l.build_keys) l.probe (drop l.i l.probe_keys) ≡ have_same_types l.build l.build_keys l.probe l.probe_keys
