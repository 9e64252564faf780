-- The text of records reads as those records.
use Rattle.std.proofs.Common.{◌≡◌, ℕ, zero, suc, ◌+◌, ◌≤◌, List, [], ◌∷◌, ◌++◌, map, length, refl, ap, ◌∙◌, arith, length-append}
use Rattle.csv.specs.Machine.{next_record}
use Rattle.csv.specs.Reading.{default_config, records, records_from}
use Rattle.csv.specs.Writing.{default_writer, escaped, field_text, fields_text, is_blank, read_back, row_text}
use Rattle.csv.specs.declared.parser.State.TheVariants as st
use Rattle.csv.proofs.RoundTrip.{read-write}
use mathlib.Core.List.{map-map, map-append}
use Rattle.col_core.specs.Tables.{Table}
use Rattle.table_text.specs.Records.{settings, records_text, header_record, row_record, table_records}

-- the settings write a record as the default ones do: they differ in how many fields a record may have
escaped_as_default : (field : List ℕ) → escaped settings field ≡ escaped default_writer field
unfolding escaped
escaped_as_default [] = refl
escaped_as_default (b ∷ rest) = rw (escaped_as_default rest) refl

field_as_default : (field : List ℕ) → field_text settings field ≡ field_text default_writer field
field_as_default field = rw (escaped_as_default field) refl

fields_as_default : (fields : List (List ℕ)) → fields_text settings fields ≡ fields_text default_writer fields
unfolding fields_text
fields_as_default [] = refl
fields_as_default (field ∷ rest) = cc (field_as_default field, fields_as_default rest)

row_as_default : (fields : List (List ℕ)) → row_text settings fields ≡ row_text default_writer fields
unfolding is_blank
row_as_default [] = refl
row_as_default (field ∷ []) = rw (escaped_as_default field, fields_as_default []) refl
row_as_default (field ∷ next ∷ rest) = rw (escaped_as_default field, fields_as_default (next ∷ rest)) refl

-- as many reads as there are records give all of them, and further ones nothing
records_back : (n : ℕ) (rows : List (List (List ℕ))) → length rows ≤ n → records_from default_config n st.StartRecord (records_text rows) ≡ map read_back rows
unfolding records_from next_record
records_back zero [] h = refl
records_back (suc n) [] h = refl
records_back zero (row ∷ rows) h = absurd (omega arith)
records_back (suc n) (row ∷ rows) h = rw (row_as_default row, read-write row (records_text rows)) (ap (λ more. read_back row ∷ more) (records_back n rows (omega arith)))

-- each record has a byte at least
fewer_than_bytes : (rows : List (List (List ℕ))) → length rows ≤ length (records_text rows)
fewer_than_bytes [] = omega arith
fewer_than_bytes (row ∷ rows) = simp length-append (omega (arith, fewer_than_bytes rows))

pub read_all : (rows : List (List (List ℕ))) → records default_config (records_text rows) ≡ map read_back rows
read_all rows = records_back (length (records_text rows) + 1) rows (omega (arith, fewer_than_bytes rows))

-- a record of a table is not empty, and so reads as it is
marked : (mark : List ℕ) (table : Table) → map read_back (table_records mark table) ≡ table_records mark table
marked mark table = ap (λ rows. header_record mark table.schema ∷ rows) (map-map read_back (row_record mark table.schema) table.rows)

pub all_marked : (first second : List ℕ) (rows groups : Table)
    → map read_back (table_records first rows ++ table_records second groups) ≡ table_records first rows ++ table_records second groups
all_marked first second rows groups = map-append read_back (table_records first rows) (table_records second groups) ∙ cc (marked first rows, marked second groups)
