-- The rows of a join, by nested loops over the rows of both sides.
use Rattle.std.specs.Prelude.{ℕ, Bool, ◌&&◌, not, if◌then◌else◌, List, [], ◌∷◌, ◌++◌, map, filter}
use Rattle.std.specs.List.{list_any, flat_map}
use Rattle.col_core.specs.declared.leaf.Leaf.TheVariants as leaves
use Rattle.col_core.specs.declared.schema.Field.{Field}
use Rattle.col_core.specs.Tables.{Row, Table}
use Rattle.join_query.specs.declared.query.Query.{Query}
use Rattle.join_model.specs.Keys.{joins, tuple}

-- the rows of a side: those of all frames, frame by frame
abbrev pub rows_of : List Table → List Row
rows_of frames = flat_map (λ frame. frame.rows) frames

-- a probe row and a build row join
abbrev pub rows_join : Query → Row → Row → Bool
rows_join q p b = joins q.null_equal (tuple q.probe_schema q.probe_keys p) (tuple q.build_schema q.build_keys b)

-- a row of nulls
abbrev pub nulls : List Field → Row
nulls schema = map (λ _. leaves.Null) schema

-- the rows of a probe row with its partners: one beside each of them; without any, one beside nulls where such rows are kept
abbrev pub with_partners : Bool → List Field → Row → List Row → List Row
with_partners keep build_schema p [] = if keep then (p ++ nulls build_schema) ∷ [] else []
with_partners keep build_schema p (b ∷ bs) = map (λ partner. p ++ partner) (b ∷ bs)

-- the rows that a probe row gives: beside each build row that it joins, in build order
abbrev pub rows_of_probe : Query → List Row → Row → List Row
rows_of_probe q build p = with_partners q.keep_probe q.build_schema p (filter (rows_join q p) build)

-- a build row that joins no probe row, where such rows are kept
abbrev pub is_outer : Query → List Row → Row → Bool
is_outer q probe b = q.keep_build && not (list_any (λ p. rows_join q p b) probe)

-- the nested-loop list: the rows of each probe row in turn, and last the outer build rows beside nulls
abbrev pub joined_rows : Query → List Row → List Row → List Row
joined_rows q build probe = flat_map (rows_of_probe q build) probe ++ map (λ b. nulls q.probe_schema ++ b) (filter (is_outer q probe) build)
