-- The two tables of an answer.
use Rattle.std.specs.Prelude.{ℕ, List, ◌++◌, map, codes}
use Rattle.col_core.specs.declared.schema.Field.{Field}
use Rattle.col_core.specs.Tables.{Table}
use Rattle.reduce_model.specs.Folds.{reduced_type}
use Rattle.join_query.specs.declared.query.Query.{Query}
use Rattle.join_query.specs.declared.query.Side.TheVariants as sides
use Rattle.join_query.specs.declared.query.ColumnRef.{ColumnRef}
use Rattle.join_query.specs.declared.query.Reduction.{Reduction}
use Rattle.join_query.specs.Names.{side_prefix, kind_name}
use Rattle.join_model.specs.ColumnRefs.{ref_type, ref_name}
use Rattle.join_model.specs.Joined.{rows_of}
use Rattle.join_model.specs.Filtered.{kept_rows}
use Rattle.join_model.specs.Groups.{group_rows}

-- a schema's fields, each name after a prefix
abbrev pub prefixed : List ℕ → List Field → List Field
prefixed prefix schema = map (λ f. record { name = prefix ++ f.name; dtype = f.dtype }) schema

-- the probe columns as `probe.x`, and then the build columns as `build.x`
abbrev pub joined_schema : Query → List Field
joined_schema q = prefixed (side_prefix sides.Probe) q.probe_schema ++ prefixed (side_prefix sides.Build) q.build_schema

abbrev pub key_field : Query → ColumnRef → Field
key_field q ref = record { name = ref_name ref; dtype = ref_type q ref }

-- a reduction's name in the answer, as `sum(probe.x)`
abbrev pub reduction_name : Reduction → List ℕ
reduction_name r = kind_name r.kind ++ codes "(" ++ ref_name r.column ++ codes ")"

abbrev pub reduction_field : Query → Reduction → Field
reduction_field q r = record { name = reduction_name r; dtype = reduced_type r.kind (ref_type q r.column) }

-- the group keys, and then the reductions
abbrev pub group_schema : Query → List Field
group_schema q = map (key_field q) q.group_keys ++ map (reduction_field q) q.reductions

-- the first answer table: the kept rows
abbrev pub answer_rows : Query → List Table → List Table → Table
answer_rows q build probe = record { schema = joined_schema q; rows = kept_rows q (rows_of build) (rows_of probe) }

-- the second answer table: one row per group of the kept rows
abbrev pub answer_groups : Query → List Table → List Table → Table
answer_groups q build probe = record { schema = group_schema q; rows = group_rows q (kept_rows q (rows_of build) (rows_of probe)) }
