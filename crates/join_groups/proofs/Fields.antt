-- Where the columns of a query stand among those of joined rows.
use Rattle.std.proofs.Common.{◌≡◌, ℕ, zero, suc, ◌+◌, ◌-◌, ◌<◌, ◌≤◌, Bool, true, false, List, [], ◌∷◌, ◌++◌, map, length, get_or, take, Option, Some, None, is_some, refl, sym, ap, ap₂, ◌∙◌, subst, arith, zero-add}
use Rattle.std.specs.Prelude.{IsSome}
use Rattle.std.specs.List.{All}
use Rattle.std.specs.Option.{option_map, option_map_or}
use Rattle.std.specs.Str.{bytes_eq}
use Rattle.std.proofs.lemmas.List.{length-append, length-map, map-append, take_more, get_or-map, get_or-append_right, get_or_append_left}
use Rattle.std.proofs.lemmas.List.Elements.{All-cons, All-nil}
use Rattle.std.proofs.lemmas.List.Quantifiers.{position-Some}
use Rattle.std.proofs.lemmas.Slice.Eq.{bytes_eq-Decides}
use Rattle.col_core.specs.declared.data_type.DataType.{DataType}
use Rattle.col_core.specs.declared.data_type.DataType.TheVariants.{Binary}
use Rattle.col_core.specs.declared.leaf.Leaf.{Leaf}
use Rattle.col_core.specs.declared.leaf.Leaf.TheVariants as leaves
use Rattle.col_core.specs.declared.schema.Field.{Field}
use Rattle.col_core.specs.Schemas.{field_position, type_named}
use Rattle.col_core.specs.Tables.{Row, field_at, no_field, values_at}
use Rattle.col_core.specs.Values.{value_at}
use Rattle.join_query.specs.declared.query.Query.{Query}
use Rattle.join_query.specs.declared.query.Side.{Side}
use Rattle.join_query.specs.declared.query.Side.TheVariants as sides
use Rattle.join_query.specs.declared.query.ColumnRef.{ColumnRef}
use Rattle.join_query.specs.Names.{side_prefix}
use Rattle.join_model.specs.Answers.{joined_schema, key_field, prefixed}
use Rattle.join_model.specs.ColumnRefs.{first_place, place_of, ref_type, ref_value, schema_of}
use Rattle.join_model.specs.Groups.{group_key}
use Rattle.join_pairs.proofs.Named.{position_is_some, type_at_position}
use Rattle.join_groups.specs.Keyed.{IsKnown, group_fields}

-- a field under a prefix
abbrev under : List ℕ → Field → Field
under prefix f = record { name = prefix ++ f.name; dtype = f.dtype }

-- the field of a side that a reference names, as joined rows have it
field_named : (q : Query) (ref : ColumnRef) (i : ℕ) → field_position ref.name (schema_of q ref.side) ≡ Some i → under (side_prefix ref.side) (field_at (schema_of q ref.side) i) ≡ key_field q ref
field_named q ref i at =
    let schema = schema_of q ref.side in
    let found = position-Some (λ (f : Field). bytes_eq f.name ref.name) schema i no_field at in
    let field : List ℕ → DataType → Field = λ name t. record { name = side_prefix ref.side ++ name; dtype = t } in
    ap₂ field ((bytes_eq-Decides (field_at schema i).name ref.name).0 found.1)
    (sym (ap (λ (o : Option DataType). option_map_or (λ t. t) o Binary) (type_at_position ref.name schema i at)))

within_side : (name : List ℕ) (schema : List Field) (i : ℕ) → field_position name schema ≡ Some i → i < length schema
within_side name schema i at = (position-Some (λ (f : Field). bytes_eq f.name name) schema i no_field at).0

probe_field : (q : Query) (i : ℕ) → i < length q.probe_schema → field_at (joined_schema q) i ≡ under (side_prefix sides.Probe) (field_at q.probe_schema i)
probe_field q i l =
    let inside : i < length (prefixed (side_prefix sides.Probe) q.probe_schema) = rw (length-map q.probe_schema (under (side_prefix sides.Probe))) l in
    get_or_append_left (prefixed (side_prefix sides.Probe) q.probe_schema) (prefixed (side_prefix sides.Build) q.build_schema) no_field i inside
    ∙ get_or-map (under (side_prefix sides.Probe)) q.probe_schema i no_field no_field l

build_field : (q : Query) (i : ℕ) → i < length q.build_schema → field_at (joined_schema q) (length q.probe_schema + i) ≡ under (side_prefix sides.Build) (field_at q.build_schema i)
build_field q i l =
    let past : length q.probe_schema + i - length q.probe_schema ≡ i = omega arith in
    get_or-append_right (prefixed (side_prefix sides.Probe) q.probe_schema) (prefixed (side_prefix sides.Build) q.build_schema) (length q.probe_schema) (length q.probe_schema + i) no_field (length-map q.probe_schema (under (side_prefix sides.Probe))) (omega arith)
    ∙ ap (field_at (prefixed (side_prefix sides.Build) q.build_schema)) past
    ∙ get_or-map (under (side_prefix sides.Build)) q.build_schema i no_field no_field l

long_joined : (q : Query) → length (joined_schema q) ≡ length q.probe_schema + length q.build_schema
long_joined q = length-append (prefixed (side_prefix sides.Probe) q.probe_schema) (prefixed (side_prefix sides.Build) q.build_schema) ∙ ap₂ (λ (a b : ℕ). a + b) (length-map q.probe_schema (under (side_prefix sides.Probe))) (length-map q.build_schema (under (side_prefix sides.Build)))

-- what is known of the place of a column
record IsPlaced (q : Query) (ref : ColumnRef) (i : ℕ) : Type 0 where
  within : i < length (joined_schema q)
  field_is : field_at (joined_schema q) i ≡ key_field q ref

module _ (q : Query) (ref : ColumnRef) (i : ℕ) (h : place_of q ref ≡ Some i) where
  found_at : (o : Option ℕ) → field_position ref.name (schema_of q ref.side) ≡ o → (k : ℕ) × (field_position ref.name (schema_of q ref.side) ≡ Some k) × (i ≡ first_place q ref.side + k)
  found_at None n = let bad : ◌≡◌ {A = Option ℕ} None (Some i) = sym (ap (option_map (λ j. first_place q ref.side + j)) n) ∙ h in absurd cc
  found_at (Some k) n = let same : ◌≡◌ {A = Option ℕ} (Some (first_place q ref.side + k)) (Some i) = sym (ap (option_map (λ j. first_place q ref.side + j)) n) ∙ h in (k, n, cc)

  on_side : (side : Side) → ref.side ≡ side → IsPlaced q ref i
  on_side sides.Probe e =
      let found = found_at (field_position ref.name (schema_of q ref.side)) refl in
      let k = found.0 in
      let inside : k < length q.probe_schema = within_side ref.name q.probe_schema k (ap (λ (s : Side). field_position ref.name (schema_of q s)) (sym e) ∙ found.1) in
      let i_is : i ≡ k = found.2 ∙ ap (λ (s : Side). first_place q s + k) e ∙ zero-add k in
      record {
        within = let l = long_joined q in omega arith;
        field_is = ap (field_at (joined_schema q)) i_is ∙ probe_field q k inside ∙ sym (ap (λ (s : Side). under (side_prefix s) (field_at (schema_of q s) k)) e) ∙ field_named q ref k found.1;
      }
  on_side sides.Build e =
      let found = found_at (field_position ref.name (schema_of q ref.side)) refl in
      let k = found.0 in
      let inside : k < length q.build_schema = within_side ref.name q.build_schema k (ap (λ (s : Side). field_position ref.name (schema_of q s)) (sym e) ∙ found.1) in
      let i_is : i ≡ length q.probe_schema + k = found.2 ∙ ap (λ (s : Side). first_place q s + k) e in
      record {
        within = let l = long_joined q in omega arith;
        field_is = ap (field_at (joined_schema q)) i_is ∙ build_field q k inside ∙ sym (ap (λ (s : Side). under (side_prefix s) (field_at (schema_of q s) k)) e) ∙ field_named q ref k found.1;
      }

  placed : IsPlaced q ref i
  placed = on_side ref.side refl

-- columns by their places
module _ (q : Query) where
  pub fields_placed : (refs : List ColumnRef) (places : List ℕ) → map (place_of q) refs ≡ map (λ i. Some i) places → map (field_at (joined_schema q)) places ≡ map (key_field q) refs
  fields_placed [] [] e = refl
  fields_placed [] (i ∷ is) e = absurd cc
  fields_placed (r ∷ rs) [] e = absurd cc
  fields_placed (r ∷ rs) (i ∷ is) e =
      let one : place_of q r ≡ Some i = cc in
      let rest : map (place_of q) rs ≡ map (λ i. Some i) is = cc in
      ap₂ (λ (f : Field) (fs : List Field). f ∷ fs) (placed q r i one).field_is (fields_placed rs is rest)

  pub values_placed : (row : Row) (refs : List ColumnRef) (places : List ℕ) → map (place_of q) refs ≡ map (λ i. Some i) places → values_at row places ≡ map (λ ref. ref_value q ref row) refs
  values_placed row [] [] e = refl
  values_placed row [] (i ∷ is) e = absurd cc
  values_placed row (r ∷ rs) [] e = absurd cc
  values_placed row (r ∷ rs) (i ∷ is) e =
      let one : place_of q r ≡ Some i = cc in
      let rest : map (place_of q) rs ≡ map (λ i. Some i) is = cc in
      ap₂ (λ (v : Leaf) (vs : Row). v ∷ vs) (sym (ap (λ (o : Option ℕ). option_map_or (value_at row) o leaves.Null) one)) (values_placed row rs is rest)

  pub places_within : (refs : List ColumnRef) (places : List ℕ) → map (place_of q) refs ≡ map (λ i. Some i) places → All (λ i. i < length (joined_schema q)) places
  places_within [] [] e = All-nil (λ (i : ℕ). i < length (joined_schema q))
  places_within [] (i ∷ is) e = absurd cc
  places_within (r ∷ rs) [] e = absurd cc
  places_within (r ∷ rs) (i ∷ is) e =
      let one : place_of q r ≡ Some i = cc in
      let rest : map (place_of q) rs ≡ map (λ i. Some i) is = cc in
      All-cons (λ (i : ℕ). i < length (joined_schema q)) i is (placed q r i one).within (places_within rs is rest)
