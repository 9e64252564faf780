-- The local states of an answer: which groups each of them holds.
use Rattle.std.specs.Prelude.{List, ◌++◌, length}
use Rattle.std.specs.List.{range_with_len}
use Rattle.col_core.specs.Tables.{Row, Table}
use Rattle.key_groups.specs.Groups.{KeyGroups}
use Rattle.list_laws.specs.Runs.{runs}
use Rattle.join_query.specs.declared.query.Query.{Query}
use Rattle.join_model.specs.Joined.{rows_of}
use Rattle.join_groups.specs.History.{answer_locals}
use Rattle.join_engine.specs.Listed.{kept_of_each, outer_rows, probe_morsels, rows_of_each}

-- the morsels of joined rows: those of each morsel of probe rows, and then the unmatched build rows, cut into runs
abbrev pub joined_morsels : Query → List Table → List Table → List (List Row)
joined_morsels q build probe = rows_of_each q build (probe_morsels q probe) ++ runs q.plan.morsel (outer_rows q build (rows_of probe))

-- the keys of each local state: the distinct group keys of the kept rows of its morsels, which are dealt round by their numbers
abbrev pub answer_groupers : Query → List Table → List Table → List KeyGroups
answer_groupers q build probe = answer_locals q (kept_of_each q (joined_morsels q build probe)) (range_with_len 0 (length (joined_morsels q build probe)))
