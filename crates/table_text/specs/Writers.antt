-- What a writer of records into memory has written.
use Rattle.std.specs.Prelude.{◌≡◌, ℕ, ◌+◌, ◌-◌, ◌^◌, ◌==◌, ◌||◌, min, Bool, not, false, List, [], ◌++◌, length, Some, Vec, unwrap_or}
use Rattle.std.specs.declared.alloc.Global.{Global}
use Rattle.csv.specs.declared.writer.Writer.{Writer}
use Rattle.csv.specs.Writing.{writer_setup, text_written, fields_written, has_written, next_sep, field_text, tail_text}
use Rattle.table_text.specs.Records.{settings}

-- the text that a writer has written
abbrev pub text_so_far : Writer (Vec ℕ Global) → List ℕ
text_so_far writer = unwrap_or (text_written (λ v. Some v.items) writer) []

-- a writer under the settings that has written whole records
pub record IsBetweenRecords (writer : Writer (Vec ℕ Global)) : Type 0 where
  pub setup : writer_setup writer ≡ settings
  pub fields : fields_written writer ≡ 0
  pub unwritten : has_written writer ≡ false

-- where a writer stands in a record: its text, how many fields the record has so far, and whether these show a byte
pub record Standing : Type 0 where
  pub text : List ℕ
  pub fields : ℕ
  pub shows : Bool

abbrev pub standing : Writer (Vec ℕ Global) → Standing
standing writer = record { text = text_so_far writer; fields = fields_written writer; shows = has_written writer }

-- where it stands after one more field
unfoldable pub with_field : Standing → List ℕ → Standing
with_field s field = record {
  text = s.text ++ (next_sep settings s.fields ++ field_text settings field);
  fields = min (s.fields + 1) (2 ^ 64 - 1);
  shows = s.shows || not (length (field_text settings field) == 0);
}

-- the text once the record is ended there
unfoldable pub ended : Standing → List ℕ
ended s = s.text ++ tail_text settings s.shows s.fields
