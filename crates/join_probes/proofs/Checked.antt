-- A query that is not refused before its rows are read can join, and its frames are of its schemas and not too large.
use Rattle.std.proofs.Common.{◌≡◌, ℕ, Bool, true, false, ◌||◌, not, List, [], ◌∷◌, Option, Some, None, refl}
use Rattle.std.specs.Option.{option_map}
use Rattle.std.proofs.lemmas.List.Elements.{All-cons, All-nil}
use Rattle.list_laws.proofs.Halves.{neither, not-false}
use Rattle.col_core.specs.declared.schema.Field.{Field}
use Rattle.col_core.specs.Schemas.{schema_eq}
use Rattle.col_core.specs.Tables.{Table}
use Rattle.col_core.proofs.Equalities.{schema_eq-Decides}
use Rattle.join_query.specs.declared.error.QueryError.{QueryError}
use Rattle.join_query.specs.declared.error.QueryError.TheVariants.{NoKeyColumns, UnknownColumn, SchemaMismatch, UnsupportedReduction, UnsupportedFilter, BadPlan, TooLarge}
use Rattle.join_query.specs.declared.query.Query.{Query}
use Rattle.join_model.specs.Refusals.{have_same_types, has_mixed_filter, lacks_keys, unknown_column, repeats_name, has_other_frame, schemas_differ, unsupported_reduction, filter_is_unsupported, is_good_plan, is_too_large, when, first_of, checked_refusal}
use Rattle.join_probes.specs.Keys.{AllHave}
use Rattle.join_probes.specs.Probed.{CanJoin}

all_have : (schema : List Field) (frames : List Table) → has_other_frame schema frames ≡ false → AllHave schema frames
all_have schema [] h = All-nil (λ (t : Table). t.schema ≡ schema)
all_have schema (t ∷ frames) h =
    let halves = neither (not (schema_eq t.schema schema)) (has_other_frame schema frames) h in
    All-cons (λ (x : Table). x.schema ≡ schema) t frames ((schema_eq-Decides t.schema schema).0 (not-false (schema_eq t.schema schema) halves.0)) (all_have schema frames halves.1)

-- a cause that there is not, and causes of which none is the first
unmet : (b : Bool) (e : QueryError) → when b e ≡ None → b ≡ false
unmet true e h = cc
unmet false e h = refl

no_place : (cause : ℕ → QueryError) (o : Option ℕ) → option_map cause o ≡ None → o ≡ None
no_place cause None h = refl
no_place cause (Some i) h = cc

no_first : (o : Option QueryError) (rest : List (Option QueryError)) → first_of (o ∷ rest) ≡ None → (o ≡ None) × (first_of rest ≡ None)
no_first None rest h = (refl, h)
no_first (Some e) rest h = cc

module _ (q : Query) (build probe : List Table) where
  -- the causes from each of them on
  abbrev from_size : List (Option QueryError)
  from_size = when (is_too_large build || is_too_large probe) TooLarge ∷ []

  abbrev from_plan : List (Option QueryError)
  from_plan = when (not (is_good_plan q.plan)) BadPlan ∷ from_size

  abbrev from_filter : List (Option QueryError)
  from_filter = when (filter_is_unsupported q) UnsupportedFilter ∷ from_plan

  abbrev from_reductions : List (Option QueryError)
  from_reductions = option_map UnsupportedReduction (unsupported_reduction q) ∷ from_filter

  abbrev from_schemas : List (Option QueryError)
  from_schemas = when (schemas_differ q build probe) SchemaMismatch ∷ from_reductions

  abbrev from_names : List (Option QueryError)
  from_names = option_map UnknownColumn (unknown_column q) ∷ from_schemas

  module _ (h : checked_refusal q build probe ≡ None) where
    names : first_of from_names ≡ None
    names = (no_first (when (lacks_keys q) NoKeyColumns) from_names h).1

    schemas : first_of from_schemas ≡ None
    schemas = (no_first (option_map UnknownColumn (unknown_column q)) from_schemas names).1

    reductions : first_of from_reductions ≡ None
    reductions = (no_first (when (schemas_differ q build probe) SchemaMismatch) from_reductions schemas).1

    filters : first_of from_filter ≡ None
    filters = (no_first (option_map UnsupportedReduction (unsupported_reduction q)) from_filter reductions).1

    plans : first_of from_plan ≡ None
    plans = (no_first (when (filter_is_unsupported q) UnsupportedFilter) from_plan filters).1

    sizes : (is_too_large build || is_too_large probe) ≡ false
    sizes =
        let size = no_first (when (not (is_good_plan q.plan)) BadPlan) from_size plans in
        unmet _ TooLarge (no_first (when (is_too_large build || is_too_large probe) TooLarge) [] size.1).0

    -- the keys' types agree, and no frame is of another schema
    abbrev repeats : Bool
    repeats = repeats_name q.build_schema || repeats_name q.probe_schema

    abbrev no_types : Bool
    no_types = not (have_same_types q.build_schema q.build_keys q.probe_schema q.probe_keys)

    alike : ((repeats || has_other_frame q.build_schema build || has_other_frame q.probe_schema probe || no_types) ≡ false) × (has_mixed_filter q ≡ false)
    alike = neither _ (has_mixed_filter q) (unmet _ SchemaMismatch (no_first (when (schemas_differ q build probe) SchemaMismatch) from_reductions schemas).0)

    keys_agree : ((repeats || has_other_frame q.build_schema build || has_other_frame q.probe_schema probe) ≡ false) × (no_types ≡ false)
    keys_agree = neither _ no_types alike.0

    pub can_join : CanJoin q
    can_join = record {
      known = no_place UnknownColumn (unknown_column q) (no_first (option_map UnknownColumn (unknown_column q)) from_schemas names).0;
      types = not-false (have_same_types q.build_schema q.build_keys q.probe_schema q.probe_keys) keys_agree.1;
      plan = not-false (is_good_plan q.plan) (unmet _ BadPlan (no_first (when (not (is_good_plan q.plan)) BadPlan) from_size plans).0);
    }

    pub probe_have : AllHave q.probe_schema probe
    probe_have = all_have q.probe_schema probe (neither _ (has_other_frame q.probe_schema probe) keys_agree.0).1

    pub build_have : AllHave q.build_schema build
    build_have = all_have q.build_schema build (neither repeats (has_other_frame q.build_schema build) (neither _ (has_other_frame q.probe_schema probe) keys_agree.0).0).1

    pub build_few : is_too_large build ≡ false
    build_few = (neither (is_too_large build) (is_too_large probe) sizes).0

    pub probe_few : is_too_large probe ≡ false
    probe_few = (neither (is_too_large build) (is_too_large probe) sizes).1

    -- what groups and a filter need
    pub has_keys : lacks_keys q ≡ false
    has_keys = unmet _ NoKeyColumns (no_first (when (lacks_keys q) NoKeyColumns) from_names h).0

    pub all_supported : unsupported_reduction q ≡ None
    all_supported = no_place UnsupportedReduction (unsupported_reduction q) (no_first (option_map UnsupportedReduction (unsupported_reduction q)) from_filter reductions).0

    pub over_integers : filter_is_unsupported q ≡ false
    over_integers = unmet _ UnsupportedFilter (no_first (when (filter_is_unsupported q) UnsupportedFilter) from_plan filters).0

    pub of_one_type : has_mixed_filter q ≡ false
    of_one_type = alike.1

pub ruleset checked = (can_join, build_have, probe_have, build_few, probe_few)
