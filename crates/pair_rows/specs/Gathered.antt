-- The columns of rows at places.
use Rattle.std.specs.Prelude.{ℕ, List, ◌++◌, map, length, Option}
use Rattle.std.specs.List.{range_with_len}
use Rattle.std.specs.Option.{option_map}
use Rattle.col_core.specs.declared.row_place.RowPlace.{RowPlace}
use Rattle.col_core.specs.declared.schema.Field.{Field}
use Rattle.col_core.specs.Tables.{Table, Column, field_at}
use Rattle.col_core.specs.Places.{placed_value}
use Rattle.join_laws.specs.declared.Pair.{Pair}

-- a column of the rows at places, its name after a prefix
abbrev pub gathered_column : List ℕ → List Field → List Table → List (Option RowPlace) → ℕ → Column
gathered_column prefix schema frames places c = record { name = prefix ++ (field_at schema c).name; dtype = (field_at schema c).dtype; values = map (placed_value frames c) places }

-- all columns of the rows at places
abbrev pub gathered : List ℕ → List Field → List Table → List (Option RowPlace) → List Column
gathered prefix schema frames places = map (gathered_column prefix schema frames places) (range_with_len 0 (length schema))

-- the place of a pair's probe row, in the one frame of its morsel
abbrev pub probe_place : Pair → Option RowPlace
probe_place pair = option_map (λ i. record { frame = 0; row = i }) pair.probe
