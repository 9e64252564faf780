-- The records of a table, and their text.
use Rattle.std.specs.Prelude.{ℕ, List, ◌∷◌, map, true}
use Rattle.std.specs.List.{zip, flat_map}
use Rattle.csv.specs.declared.writer.WriterBuilder.{WriterBuilder}
use Rattle.csv.specs.Writing.{default_writer, with_flexible, row_text}
use Rattle.col_core.specs.declared.schema.Field.{Field}
use Rattle.col_core.specs.Tables.{Row, Table}
use Rattle.table_text.specs.Fields.{value_text}

-- the header record: a mark, and the names of the columns as they are
abbrev pub header_record : List ℕ → List Field → List (List ℕ)
header_record mark schema = mark ∷ map (λ f. f.name) schema

-- the record of a row: a mark, and the fields of its values in column order
abbrev pub row_record : List ℕ → List Field → Row → List (List ℕ)
row_record mark schema row = mark ∷ map (λ p. value_text p.0.dtype p.1) (zip schema row)

-- the records of a table: its header, and then its rows in order
abbrev pub table_records : List ℕ → Table → List (List (List ℕ))
table_records mark table = header_record mark table.schema ∷ map (row_record mark table.schema) table.rows

-- how records are written: a comma between fields, quotes `"` where a field needs them, a line feed at the end, records of any length
abbrev pub settings : WriterBuilder
settings = with_flexible default_writer true

-- the text of records, one after another
abbrev pub records_text : List (List (List ℕ)) → List ℕ
records_text records = flat_map (row_text settings) records
