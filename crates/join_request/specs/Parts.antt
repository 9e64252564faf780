-- The parts of a request: its sides, the join, columns and reductions.
use Rattle.std.specs.Prelude.{ℕ, List, [], ◌∷◌, map, drop, length, Bool, false, if◌then◌else◌, nat_eq, codes, Option, Some, None, option_map}
use Rattle.std.specs.List.{starts_with}
use Rattle.std.specs.Option.{option_or}
use Rattle.serde_json.specs.Data.{Data}
use Rattle.serde_json.specs.Find.{get, as_bool, as_str}
use Rattle.reduce_model.specs.declared.kind.ReductionKind.{ReductionKind}
use Rattle.reduce_model.specs.declared.kind.ReductionKind.TheVariants as kinds
use Rattle.join_query.specs.declared.query.Side.{Side}
use Rattle.join_query.specs.declared.query.Side.TheVariants.{Build, Probe}
use Rattle.join_query.specs.declared.query.ColumnRef.{ColumnRef}
use Rattle.join_query.specs.declared.query.Reduction.{Reduction}
use Rattle.join_query.specs.Names.{side_prefix, kind_name}
use Rattle.join_request.specs.Json.{◌>>=◌, object_of, or_default, list_of, pair_of, named}
use Rattle.join_request.specs.Schemas.{schema_of_value}
use Rattle.join_request.specs.Frames.{frames_of_value}
use Rattle.join_request.specs.declared.parts.RequestSide.{RequestSide}
use Rattle.join_request.specs.declared.parts.RequestJoin.{RequestJoin}

-- a side: an object with a schema, and the frames that stand under it
abbrev pub side_of_value : Data → Option RequestSide
side_of_value d = do
  side ← object_of (codes "schema" ∷ codes "frames" ∷ []) d
  schema ← get (codes "schema") side >>= schema_of_value
  frames ← get (codes "frames") side >>= frames_of_value schema
  Some (record { schema = schema; frames = frames })

-- the names of a key's columns
abbrev pub names_of_value : Data → Option (List (List ℕ))
names_of_value d = list_of as_str d

-- a truth value, which is false where it is missing
abbrev pub flag_of : Option Data → Option Bool
flag_of found = or_default false as_bool found

-- the join: an object with the names of the key columns of each side, and three truth values
abbrev pub join_of_value : Data → Option RequestJoin
join_of_value d = do
  join ← object_of (codes "build" ∷ codes "probe" ∷ codes "null_equal" ∷ codes "keep_probe" ∷ codes "keep_build" ∷ []) d
  build ← get (codes "build") join >>= names_of_value
  probe ← get (codes "probe") join >>= names_of_value
  null_equal ← flag_of (get (codes "null_equal") join)
  keep_probe ← flag_of (get (codes "keep_probe") join)
  keep_build ← flag_of (get (codes "keep_build") join)
  Some (record { build = build; probe = probe; null_equal = null_equal; keep_probe = keep_probe; keep_build = keep_build })

-- the name after the prefix of a side
abbrev pub name_on : Side → List ℕ → Option (List ℕ)
name_on side text = if starts_with nat_eq text (side_prefix side) then Some (drop (length (side_prefix side)) text) else None

abbrev pub column_on : Side → List ℕ → Option ColumnRef
column_on side text = option_map (λ name. record { side = side; name = name }) (name_on side text)

-- a column: a text that begins with the prefix of its side; all that follows is its name
abbrev pub column_of_text : List ℕ → Option ColumnRef
column_of_text text = option_or (column_on Build text) (column_on Probe text)

abbrev pub column_of_value : Data → Option ColumnRef
column_of_value d = as_str d >>= column_of_text

-- the group keys
abbrev pub columns_of_value : Data → Option (List ColumnRef)
columns_of_value d = list_of column_of_value d

-- the reduction that a word names
abbrev pub kind_of_text : List ℕ → Option ReductionKind
kind_of_text text = named (map (λ kind. (kind_name kind, kind)) (kinds.Sum ∷ kinds.Min ∷ kinds.Max ∷ kinds.First ∷ kinds.Last ∷ [])) text

-- a reduction: a pair of its kind and its column
abbrev pub reduction_of_value : Data → Option Reduction
reduction_of_value d = do
  pair ← pair_of d
  kind ← as_str pair.0 >>= kind_of_text
  column ← column_of_value pair.1
  Some (record { kind = kind; column = column })

abbrev pub reductions_of_value : Data → Option (List Reduction)
reductions_of_value d = list_of reduction_of_value d
