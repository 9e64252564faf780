-- Columns gathered from places.
use Rattle.std.proofs.Common.{◌≡◌, ℕ, List, ◌++◌, map, length, get_or, slice_get, Option, Some, refl, sym, ◌∙◌}
use Rattle.std.specs.List.{All, range_with_len}
use Rattle.std.proofs.lemmas.List.{length-map, get_or-map}
use Rattle.std.proofs.lemmas.List.FromFn.{fill_by_all}
use Rattle.std.proofs.lemmas.List.Elements.{All-map, All-weaker}
use Rattle.std.proofs.lemmas.Option.{get_or_from_slice_get}
use mathlib.Core.List.{map-map}
use Rattle.col_core.specs.declared.row_place.RowPlace.{RowPlace}
use Rattle.col_core.specs.declared.schema.Field.{Field}
use Rattle.col_core.specs.Places.{placed_value, type_at}
use Rattle.col_core.specs.Tables.{Table, Column, header, no_field, field_at}
use Rattle.join_model.specs.Answers.{prefixed}
use Rattle.join_probes.specs.Keys.{AllHave}
use Rattle.pair_rows.specs.Gathered.{gathered, gathered_column}

-- the field that was found at a place
pub field_found : (schema : List Field) (c : ℕ) (f : Field) → slice_get schema c ≡ Some f → field_at schema c ≡ f
field_found schema c f h = get_or_from_slice_get schema c f no_field h

-- each frame of the schema has the type of a field at its place
pub types_in_frames : (schema : List Field) (frames : List Table) (c : ℕ) (f : Field) → AllHave schema frames → slice_get schema c ≡ Some f → All (λ (t : Table). type_at t.schema c ≡ Some f.dtype) frames
types_in_frames schema frames c f have found =
    All-weaker (λ (t : Table). t.schema ≡ schema) (λ (t : Table). type_at t.schema c ≡ Some f.dtype) (λ t same. rw (same, found) refl) frames have

pub ruleset gathering = (field_found, types_in_frames)

-- the headers of gathered columns are the fields, each name after the prefix
pub headers_gathered : (prefix : List ℕ) (schema : List Field) (frames : List Table) (places : List (Option RowPlace)) → map header (gathered prefix schema frames places) ≡ prefixed prefix schema
headers_gathered prefix schema frames places =
    let named : Field → Field = λ f. record { name = prefix ++ f.name; dtype = f.dtype } in
    map-map header (gathered_column prefix schema frames places) (range_with_len 0 (length schema))
    ∙ sym (fill_by_all (λ c. named (field_at schema c)) (map named schema) (length schema) no_field (length-map schema named) (λ k h. get_or-map named schema k no_field no_field h))

-- gathered columns are as long as the places
pub long_gathered : (prefix : List ℕ) (schema : List Field) (frames : List Table) (places : List (Option RowPlace)) → All (λ (c : Column). length c.values ≡ length places) (gathered prefix schema frames places)
long_gathered prefix schema frames places = All-map (λ (c : Column). length c.values ≡ length places) (gathered_column prefix schema frames places) (range_with_len 0 (length schema)) (λ k d l. length-map places (placed_value frames (get_or (range_with_len 0 (length schema)) k d)))
