-- When two values, and two keys, are equal, and when two keys join.
use Rattle.std.specs.Prelude.{ℕ, Bool, ◌&&◌, ◌||◌, not, List, map}
use Rattle.std.specs.List.{list_any}
use Rattle.std.specs.Option.{option_map_or}
use Rattle.std.specs.Cmp.Lexicographic.{pointwise}
use Rattle.col_core.specs.declared.leaf.Leaf.{Leaf}
use Rattle.col_core.specs.declared.leaf.Leaf.TheVariants as leaves
use Rattle.col_core.specs.declared.schema.Field.{Field}
use Rattle.col_core.specs.Values.{value_at, is_null, leaf_eq}
use Rattle.col_core.specs.Tables.{Row}
use Rattle.col_core.specs.Schemas.{field_position}

-- two tuples are equal when they are as long and equal place by place
abbrev pub tuple_eq : List Leaf → List Leaf → Bool
tuple_eq a b = pointwise leaf_eq a b

-- two keys join where they are equal, and either nulls join or there is none among them
abbrev pub joins : Bool → List Leaf → List Leaf → Bool
joins null_equal a b = tuple_eq a b && (null_equal || not (list_any is_null a))

-- a row's value in the first column of a name
abbrev pub named_value : List Field → List ℕ → Row → Leaf
named_value schema name row = option_map_or (value_at row) (field_position name schema) leaves.Null

-- a row's values in the columns of names
abbrev pub tuple : List Field → List (List ℕ) → Row → List Leaf
tuple schema names row = map (λ name. named_value schema name row) names
