-- Frames: lists of rows, and rows: lists with one value for each field.
use Rattle.std.specs.Prelude.{List, [], ◌∷◌, Option, Some, None, option_map, option_and_then}
use Rattle.serde_json.specs.Data.{Data, Items, no_items, item}
use Rattle.serde_json.specs.Find.{as_array}
use Rattle.col_core.specs.declared.schema.Field.{Field}
use Rattle.col_core.specs.Tables.{Row, Table}
use Rattle.join_request.specs.Json.{list_of}
use Rattle.join_request.specs.Leaves.{leaf_of_value}

-- one value for each field
abbrev pub row_of_items : List Field → Items → Option Row
row_of_items [] no_items = Some []
row_of_items (f ∷ fs) (item d ds) = option_and_then (λ v. option_map (λ vs. v ∷ vs) (row_of_items fs ds)) (leaf_of_value f.dtype d)
row_of_items fs ds = None

abbrev pub row_of_value : List Field → Data → Option Row
row_of_value schema d = option_and_then (row_of_items schema) (as_array d)

-- rows without a column are no rows
abbrev pub rows_with_columns : List Field → List Row → List Row
rows_with_columns [] rows = []
rows_with_columns (f ∷ fs) rows = rows

abbrev pub frame_of_rows : List Field → List Row → Table
frame_of_rows schema rows = record { schema = schema; rows = rows_with_columns schema rows }

abbrev pub frame_of_value : List Field → Data → Option Table
frame_of_value schema d = option_map (frame_of_rows schema) (list_of (row_of_value schema) d)

abbrev pub frames_of_value : List Field → Data → Option (List Table)
frames_of_value schema d = list_of (frame_of_value schema) d
