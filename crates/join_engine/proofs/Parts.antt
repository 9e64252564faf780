-- What is not refused before its rows are read can be answered.
use Rattle.std.proofs.Common.{◌≡◌, List, None}
use Rattle.col_core.specs.Tables.{Table}
use Rattle.join_query.specs.declared.query.Query.{Query}
use Rattle.join_model.specs.Refusals.{checked_refusal}
use Rattle.join_probes.proofs.Checked.{all_supported, build_few, build_have, can_join, has_keys, of_one_type, over_integers, probe_few, probe_have}
use Rattle.join_engine.specs.Listed.{CanAnswer}

pub can_answer : (q : Query) (build probe : List Table) → checked_refusal q build probe ≡ None → CanAnswer q build probe
can_answer q build probe h = record {
  can_list = record {
    can_join = can_join q build probe h;
    can_group = record { keys = has_keys q build probe h; supported = all_supported q build probe h };
    build_have = build_have q build probe h;
    integers = over_integers q build probe h;
    one_type = of_one_type q build probe h;
  };
  probe_have = probe_have q build probe h;
  few_build = build_few q build probe h;
  few_probe = probe_few q build probe h;
}

pub ruleset checked = (can_answer)
