-- Joined rows that another request has as its probe frames.
use Rattle.std.proofs.Common.{◌≡◌, ◌<◌, ◌^◌, true, false, None, List, [], length, subst, arith}
use Rattle.std.specs.List.{All}
use Rattle.col_core.specs.declared.schema.Field.{Field}
use Rattle.col_core.specs.Schemas.{schema_eq}
use Rattle.col_core.specs.Tables.{Table}
use Rattle.col_core.proofs.Equalities.{schema_eq-Decides}
use Rattle.join_query.specs.declared.query.Query.{Query}
use Rattle.join_model.specs.Joined.{rows_of}
use Rattle.join_model.specs.Refusals.{checked_refusal, is_good_plan, lacks_keys, unknown_column, unsupported_reduction}
use Rattle.join_probes.proofs.Checked.{all_supported, can_join, has_keys, probe_few, probe_have}
use Rattle.join_probes.proofs.Plans.{few_rows}

-- a query that is not refused
module _ (q : Query) (h : checked_refusal q [] [] ≡ None) where
  pub fit_keys : lacks_keys q ≡ false
  fit_keys = has_keys q [] [] h

  pub fit_columns : unknown_column q ≡ None
  fit_columns = (can_join q [] [] h).known

  pub fit_reductions : unsupported_reduction q ≡ None
  fit_reductions = all_supported q [] [] h

  pub fit_plan : is_good_plan q.plan ≡ true
  fit_plan = (can_join q [] [] h).plan

-- probe frames that are not refused
module _ (q : Query) (morsels : List Table) (h : checked_refusal q [] morsels ≡ None) where
  pub fit_morsels : (schema : List Field) → schema_eq q.probe_schema schema ≡ true → All (λ m. m.schema ≡ schema) morsels
  fit_morsels schema same = subst (λ (s : List Field). All (λ m. m.schema ≡ s) morsels) ((schema_eq-Decides q.probe_schema schema).0 same) (probe_have q [] morsels h)

  pub fit_rows : length (rows_of morsels) < 2 ^ 32
  fit_rows = omega (arith, few_rows morsels (probe_few q [] morsels h))

pub ruleset fitting = (fit_keys, fit_columns, fit_reductions, fit_plan, fit_morsels, fit_rows)
