-- What the text keeps.
use Rattle.std.specs.Prelude.{◌≡◌, ℕ, List, ◌++◌}
use Rattle.csv.specs.Reading.{default_config, records}
use Rattle.hex.specs.Hex.{IsBytes}
use Rattle.col_core.specs.declared.data_type.DataType.{DataType}
use Rattle.col_core.specs.declared.leaf.Leaf.{Leaf}
use Rattle.col_core.specs.declared.leaf.Leaf.TheVariants as leaves
use Rattle.col_core.specs.Values.{Fits}
use Rattle.col_core.specs.Tables.{Table}
use Rattle.table_text.specs.Fields.{value_text}
use Rattle.table_text.specs.Records.{table_records, records_text}

-- The records that csv's reader finds in the text of two tables are theirs, where it is told to expect no header and records of any
-- length. It passes over a byte order mark, with which no mark should begin.
abbrev pub ReadsBack : List ℕ → Table → List ℕ → Table → Type 0
ReadsBack first a second b =
    records default_config (records_text (table_records first a ++ table_records second b)) ≡ table_records first a ++ table_records second b

-- what a value holds as bytes are numbers below 256
abbrev pub HoldsBytes : Leaf → Type 0
HoldsBytes (leaves.Bytes bytes) = IsBytes bytes
HoldsBytes _ = Unit {0}

-- no two values of a column have the same field
abbrev pub TellsApart : DataType → Type 0
TellsApart dtype = (v w : Leaf) → Fits dtype v → Fits dtype w → HoldsBytes v → HoldsBytes w → value_text dtype v ≡ value_text dtype w → v ≡ w
