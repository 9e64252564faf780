-- The tables of an answer.
use Rattle.std.specs.Prelude.{List}
use Rattle.col_core.specs.Tables.{Table}
use Rattle.chunked_idx_table.specs.Tables.{ProbeTable}
use Rattle.join_laws.specs.Partitions.{tables_of}
use Rattle.join_query.specs.declared.query.Query.{Query}
use Rattle.join_model.specs.Joined.{rows_of}
use Rattle.join_tables.specs.Tables.{part_of}
use Rattle.join_probes.specs.Probed.{plan_of, build_frame_keys, is_joined}

-- what is said of the tables of an answer, one a partition: table p has the keys of partition p with the positions of their rows, and a key is marked exactly where some probe row joins it
abbrev pub answer_tables : Query → List Table → List Table → List ProbeTable
answer_tables q build probe = tables_of (part_of (plan_of q)) (plan_of q).state q.plan.partitions (build_frame_keys q build) (is_joined q (rows_of probe))
