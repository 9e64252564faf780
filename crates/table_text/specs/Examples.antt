-- Values and tables of worked texts.
use Rattle.std.specs.Prelude.{ℕ, pos, neg_ℤ, List, [], ◌∷◌, map, codes}
use Rattle.col_core.specs.declared.data_type.DataType.{DataType}
use Rattle.col_core.specs.declared.data_type.DataType.TheVariants.{String}
use Rattle.col_core.specs.declared.leaf.Leaf.{Leaf}
use Rattle.col_core.specs.declared.leaf.Leaf.TheVariants as leaves
use Rattle.col_core.specs.declared.schema.Field.{Field}
use Rattle.col_core.specs.Tables.{Row, Table}
use Rattle.table_text.specs.Records.{table_records, records_text}

abbrev pub number : ℕ → Leaf
number n = leaves.Whole (pos n)

abbrev pub minus : ℕ → Leaf
minus n = leaves.Whole (neg_ℤ (pos n))

abbrev pub text : List ℕ → Leaf
text t = leaves.Bytes t

abbrev pub field : List ℕ → DataType → Field
field name dtype = record { name = name; dtype = dtype }

abbrev pub table : List Field → List Row → Table
table schema rows = record { schema = schema; rows = rows }

-- the text of a table of one `String` column `k`
abbrev pub column_text : List Leaf → List ℕ
column_text values = records_text (table_records (codes "J") (table (field (codes "k") String ∷ []) (map (λ v. v ∷ []) values)))
