-- The keys of the rows of a side.
use Rattle.std.specs.Prelude.{◌≡◌, ℕ, Bool, List, map, IsSome}
use Rattle.std.specs.List.{All}
use Rattle.std.specs.Option.{option_map_or}
use Rattle.col_core.specs.declared.schema.Field.{Field}
use Rattle.col_core.specs.Schemas.{field_position}
use Rattle.col_core.specs.Tables.{Row, Table, field_at, no_field}
use Rattle.row_code.specs.Spelling.{IsRowOf}
use Rattle.hash_keys.specs.Keys.{Key}
use Rattle.hash_keys.specs.Rows.{key_of}
use Rattle.join_query.specs.declared.query.Query.{Query}
use Rattle.join_model.specs.Keys.{tuple}

-- a schema has a column of each name
abbrev pub AreKnown : List Field → List (List ℕ) → Type 0
AreKnown schema names = All (λ name. IsSome (field_position name schema)) names

-- each frame has the schema
abbrev pub AllHave : List Field → List Table → Type 0
AllHave schema frames = All (λ frame. frame.schema ≡ schema) frames

-- the first field of a name
abbrev pub key_field : List Field → List ℕ → Field
key_field schema name = option_map_or (field_at schema) (field_position name schema) no_field

-- the fields of a key
abbrev pub key_fields : List Field → List (List ℕ) → List Field
key_fields schema names = map (key_field schema) names

-- the key of a row: the bytes of its tuple; none where nulls do not join and one of its values is null
abbrev pub row_key : Bool → List Field → List (List ℕ) → Row → Key
row_key null_equal schema names row = key_of null_equal (key_fields schema names) (tuple schema names row)

-- a row's tuple fits the fields of the key, and its texts and bytes have lengths that eight bytes hold
abbrev pub HasKey : List Field → List (List ℕ) → Row → Type 0
HasKey schema names row = IsRowOf (key_fields schema names) (tuple schema names row)

-- the keys of the rows of both sides
abbrev pub build_key : Query → Row → Key
build_key q row = row_key q.null_equal q.build_schema q.build_keys row

abbrev pub probe_key : Query → Row → Key
probe_key q row = row_key q.null_equal q.probe_schema q.probe_keys row
