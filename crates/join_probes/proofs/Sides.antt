-- The keys of the rows of a side, from the columns at the places of their names.
use Rattle.std.proofs.Common.{◌≡◌, ℕ, ◌<◌, Bool, List, map, length, Some, get_or, sym, ap, ap₂, ◌∙◌, subst}
use Rattle.std.specs.List.{All}
use Rattle.std.proofs.lemmas.List.{get_or-map, length-map}
use mathlib.Core.List.{map-map}
use Rattle.list_laws.proofs.Maps.{map_agree}
use Rattle.col_core.specs.declared.schema.Field.{Field}
use Rattle.col_core.specs.Schemas.{field_position}
use Rattle.col_core.specs.Tables.{Row, Table, field_at, selected, values_at}
use Rattle.hash_keys.specs.Rows.{key_of, row_keys}
use Rattle.row_code.specs.Spelling.{IsRowOf}
use Rattle.join_probes.specs.Keys.{key_fields, row_key, HasKey}
use Rattle.join_probes.proofs.Fields.{fields_at, places_within, tuple_at}

-- the places of names
abbrev AreAt : List Field → List (List ℕ) → List ℕ → Type 0
AreAt schema names places = map (λ name. field_position name schema) names ≡ map (λ i. Some i) places

-- the columns of a frame of the schema are there
pub side_within : (schema : List Field) (names : List (List ℕ)) (places : List ℕ) (frame : Table) → frame.schema ≡ schema → map (λ name. field_position name schema) names ≡ map (λ i. Some i) places → All (λ i. i < length frame.schema) places
side_within schema names places frame same e = subst (λ (fields : List Field). All (λ i. i < length fields) places) (sym same) (places_within schema names places e)

one_key : (null_equal : Bool) (schema : List Field) (names : List (List ℕ)) (places : List ℕ) (fields : List Field) (row : Row) → fields ≡ schema → AreAt schema names places
    → key_of null_equal (map (field_at fields) places) (values_at row places) ≡ row_key null_equal schema names row
one_key null_equal schema names places fields row same e =
    ap₂ (λ (fs : List Field) (vs : Row). key_of null_equal fs vs) (ap (λ (fs : List Field). map (field_at fs) places) same ∙ fields_at schema names places e) (tuple_at schema names places row e)

-- the keys of the selected columns are those of the rows
pub side_keys_are : (null_equal : Bool) (schema : List Field) (names : List (List ℕ)) (places : List ℕ) (frame : Table) → frame.schema ≡ schema → map (λ name. field_position name schema) names ≡ map (λ i. Some i) places
    → row_keys null_equal (selected places frame) ≡ map (row_key null_equal schema names) frame.rows
side_keys_are null_equal schema names places frame same e =
    map-map (key_of null_equal (map (field_at frame.schema) places)) (λ (row : Row). values_at row places) frame.rows
    ∙ map_agree _ _ (λ row. one_key null_equal schema names places frame.schema row same e) frame.rows

-- the selected rows are those of the keys
pub side_spelled : (schema : List Field) (names : List (List ℕ)) (places : List ℕ) (frame : Table) → frame.schema ≡ schema → map (λ name. field_position name schema) names ≡ map (λ i. Some i) places
    → All (IsRowOf (selected places frame).schema) (selected places frame).rows → All (HasKey schema names) frame.rows
side_spelled schema names places frame same e h = λ k d l.
    let fields : map (field_at frame.schema) places ≡ key_fields schema names = ap (λ (fs : List Field). map (field_at fs) places) same ∙ fields_at schema names places e in
    let below : k < length (selected places frame).rows = subst (λ (n : ℕ). k < n) (sym (length-map frame.rows (λ (row : Row). values_at row places))) l in
    let read = get_or-map (λ (row : Row). values_at row places) frame.rows k d (values_at d places) l in
    let here : IsRowOf (map (field_at frame.schema) places) (values_at (get_or frame.rows k d) places) = subst (IsRowOf (map (field_at frame.schema) places)) read (h k (values_at d places) below) in
    subst (IsRowOf (key_fields schema names)) (tuple_at schema names places (get_or frame.rows k d) e) (subst (λ (fs : List Field). IsRowOf fs (values_at (get_or frame.rows k d) places)) fields here)

pub ruleset side = (side_within, side_keys_are, side_spelled)
