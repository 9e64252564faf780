-- The columns that a query names.
use Rattle.std.proofs.Common.{◌≡◌, ℕ, zero, suc, ◌+◌, ◌-◌, ◌<◌, true, false, List, [], ◌∷◌, ◌++◌, map, length, slice_get, Option, Some, is_some, refl, sym, ap, ◌∙◌, arith, inl, inr}
use Rattle.std.specs.Prelude.{IsSome, nat_lt}
use Rattle.std.specs.List.{position_or_len}
use Rattle.std.specs.Option.{option_map_or}
use Rattle.std.specs.Str.{bytes_eq}
use Rattle.std.proofs.lemmas.Bool.{false≢true, cases_Bool, lt-ltb}
use Rattle.std.proofs.lemmas.List.{length-map, get_or-map, get_or-append_right, get_or_append_left}
use Rattle.std.proofs.lemmas.List.Quantifiers.{position-Some}
use Rattle.std.proofs.lemmas.Option.{get_or_from_slice_get}
use Rattle.col_core.specs.declared.schema.Field.{Field}
use Rattle.col_core.specs.declared.data_type.DataType.{DataType}
use Rattle.col_core.specs.declared.data_type.DataType.TheVariants.{Binary}
use Rattle.col_core.specs.Schemas.{field_position, type_named}
use Rattle.col_core.specs.Tables.{header, Column, field_at, no_field}
use Rattle.join_query.specs.declared.query.Query.{Query}
use Rattle.join_query.specs.declared.query.Side.TheVariants as sides
use Rattle.join_query.specs.declared.query.ColumnRef.{ColumnRef}
use Rattle.join_model.specs.Answers.{prefixed, joined_schema}
use Rattle.join_model.specs.ColumnRefs.{schema_of, ref_type}
use Rattle.join_query.specs.Names.{side_prefix}

-- the field that was found at a place
field_found : (schema : List Field) (c : ℕ) (f : Field) → slice_get schema c ≡ Some f → field_at schema c ≡ f
field_found schema c f h = get_or_from_slice_get schema c f no_field h

-- the type of the first field of a name, found at its place
type_at_first : (name : List ℕ) (fields : List Field) (i : ℕ) → i < length fields → bytes_eq (field_at fields i).name name ≡ true → ((k : ℕ) → k < i → bytes_eq (field_at fields k).name name ≡ false) → type_named name fields ≡ Some (field_at fields i).dtype
type_at_first name [] i l here before = absurd (omega arith)
type_at_first name (f ∷ fs) zero l here before = rw here refl
type_at_first name (f ∷ fs) (suc i) l here before = rw (before 0 (omega arith)) (type_at_first name fs i (omega arith) here (λ k h. before (suc k) (omega arith)))

-- a field that has a name has the type at its place
pub type_at_position : (name : List ℕ) (fields : List Field) (i : ℕ) → field_position name fields ≡ Some i → type_named name fields ≡ Some (field_at fields i).dtype
type_at_position name fields i h =
    let found = position-Some (λ (f : Field). bytes_eq f.name name) fields i no_field h in
    type_at_first name fields i found.0 found.1 (λ k l. found.2 k l)

found_within : (name : List ℕ) (fields : List Field) → is_some (type_named name fields) ≡ true → position_or_len (λ (f : Field). bytes_eq f.name name) fields < length fields
found_within name [] h = absurd (false≢true h)
found_within name (f ∷ fs) h = elim (cases_Bool (bytes_eq f.name name)) [
  | inl here ↦ rw here (omega arith)
  | inr other ↦ let inner : is_some (type_named name fs) ≡ true = rw other at h in let rest = found_within name fs inner in rw other (omega arith)
]

-- a name that has a type has a place
pub position_is_some : (name : List ℕ) (fields : List Field) → is_some (type_named name fields) ≡ true → IsSome (field_position name fields)
position_is_some name fields h =
    let inside : nat_lt (position_or_len (λ (f : Field). bytes_eq f.name name) fields) (length fields) ≡ true = lt-ltb _ _ (found_within name fields h) in
    rw inside refl

-- the type of a column of the joined schema, by its side's schema
probe_field_type : (front back : List ℕ) (ps bs : List Field) (i : ℕ) → i < length ps → (field_at (prefixed front ps ++ prefixed back bs) i).dtype ≡ (field_at ps i).dtype
probe_field_type front back ps bs i h =
    let named : Field → Field = λ f. record { name = front ++ f.name; dtype = f.dtype } in
    let inside : i < length (map named ps) = rw (length-map ps named) h in
    ap (λ (f : Field). f.dtype) (get_or_append_left (map named ps) (prefixed back bs) no_field i inside) ∙ ap (λ (f : Field). f.dtype) (get_or-map named ps i no_field no_field h)

build_field_type : (front back : List ℕ) (ps bs : List Field) (i : ℕ) → i < length bs → (field_at (prefixed front ps ++ prefixed back bs) (length ps + i)).dtype ≡ (field_at bs i).dtype
build_field_type front back ps bs i h =
    let named : Field → Field = λ f. record { name = back ++ f.name; dtype = f.dtype } in
    let past : length ps + i - length ps ≡ i = omega arith in
    ap (λ (f : Field). f.dtype) (get_or-append_right (prefixed front ps) (map named bs) (length ps) (length ps + i) no_field (length-map ps (λ (f : Field). record { name = front ++ f.name; dtype = f.dtype })) (omega arith))
    ∙ ap (λ (k : ℕ). (field_at (map named bs) k).dtype) past
    ∙ ap (λ (f : Field). f.dtype) (get_or-map named bs i no_field no_field h)

-- a column of the joined schema has the type of the column that a reference names
type_referred : (q : Query) (ref : ColumnRef) (schema : List Field) (i place : ℕ) (c : Column) → schema_of q ref.side ≡ schema → field_position ref.name schema ≡ Some i → (field_at (joined_schema q) place).dtype ≡ (field_at schema i).dtype → slice_get (joined_schema q) place ≡ Some (header c) → c.dtype ≡ ref_type q ref
type_referred q ref schema i place c side at same found =
    sym (ap (λ (f : Field). f.dtype) (field_found (joined_schema q) place (header c) found))
    ∙ same
    ∙ sym (ap (λ (o : Option DataType). option_map_or (λ t. t) o Binary) (ap (type_named ref.name) side ∙ type_at_position ref.name schema i at))

pub probe_type : (q : Query) (ref : ColumnRef) (i : ℕ) (c : Column) → ref.side ≡ sides.Probe → field_position ref.name q.probe_schema ≡ Some i → slice_get (joined_schema q) i ≡ Some (header c) → c.dtype ≡ ref_type q ref
probe_type q ref i c side at found = type_referred q ref q.probe_schema i i c (ap (schema_of q) side) at (probe_field_type (side_prefix sides.Probe) (side_prefix sides.Build) q.probe_schema q.build_schema i (position-Some (λ (f : Field). bytes_eq f.name ref.name) q.probe_schema i no_field at).0) found

pub build_type : (q : Query) (ref : ColumnRef) (i : ℕ) (c : Column) → ref.side ≡ sides.Build → field_position ref.name q.build_schema ≡ Some i → slice_get (joined_schema q) (length q.probe_schema + i) ≡ Some (header c) → c.dtype ≡ ref_type q ref
build_type q ref i c side at found = type_referred q ref q.build_schema i (length q.probe_schema + i) c (ap (schema_of q) side) at (build_field_type (side_prefix sides.Probe) (side_prefix sides.Build) q.probe_schema q.build_schema i (position-Some (λ (f : Field). bytes_eq f.name ref.name) q.build_schema i no_field at).0) found
