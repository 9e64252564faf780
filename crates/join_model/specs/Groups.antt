-- The groups of rows, and what the reductions give for each.
use Rattle.std.specs.Prelude.{List, ◌++◌, map, filter}
use Rattle.list_laws.specs.Distinct.{distinct}
use Rattle.col_core.specs.declared.leaf.Leaf.{Leaf}
use Rattle.col_core.specs.Tables.{Row}
use Rattle.reduce_model.specs.Folds.{fold_of}
use Rattle.join_query.specs.declared.query.Query.{Query}
use Rattle.join_query.specs.declared.query.Reduction.{Reduction}
use Rattle.join_model.specs.Keys.{tuple_eq}
use Rattle.join_model.specs.ColumnRefs.{ref_type, ref_value}

-- a row's group key
abbrev pub group_key : Query → Row → List Leaf
group_key q row = map (λ ref. ref_value q ref row) q.group_keys

-- the distinct group keys of rows, by first appearance; a null is equal to a null
abbrev pub group_keys : Query → List Row → List (List Leaf)
group_keys q rows = distinct tuple_eq (map (group_key q) rows)

-- the rows of a group, in order
abbrev pub members_of : Query → List Row → List Leaf → List Row
members_of q rows key = filter (λ row. tuple_eq (group_key q row) key) rows

-- what a reduction gives for the rows of a group
abbrev pub reduced : Query → List Row → Reduction → Leaf
reduced q rows r = fold_of r.kind (ref_type q r.column) (map (ref_value q r.column) rows)

-- a group's row: its key, and then what each reduction gives
abbrev pub group_row : Query → List Row → List Leaf → Row
group_row q rows key = key ++ map (reduced q (members_of q rows key)) q.reductions

-- one row per group, by first appearance
abbrev pub group_rows : Query → List Row → List Row
group_rows q rows = map (group_row q rows) (group_keys q rows)
