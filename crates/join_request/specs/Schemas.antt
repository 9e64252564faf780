-- Schemas: lists of pairs of a name and a type.
use Rattle.std.specs.Prelude.{List, Option, Some}
use Rattle.serde_json.specs.Data.{Data}
use Rattle.serde_json.specs.Find.{as_str}
use Rattle.col_core.specs.declared.schema.Field.{Field}
use Rattle.join_request.specs.Json.{◌>>=◌, list_of, pair_of}
use Rattle.join_request.specs.Types.{type_of_text}

-- a field: its name and its type, both texts
abbrev pub field_of_value : Data → Option Field
field_of_value d = do
  pair ← pair_of d
  name ← as_str pair.0
  dtype ← as_str pair.1 >>= type_of_text
  Some (record { name = name; dtype = dtype })

-- a name may stand twice
abbrev pub schema_of_value : Data → Option (List Field)
schema_of_value d = list_of field_of_value d
