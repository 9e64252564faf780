-- The fields of keys: their types, and where they stand.
use Rattle.std.proofs.Common.{◌≡◌, ℕ, suc, ◌+◌, ◌<◌, ◌≤◌, Bool, true, false, cond, List, [], ◌∷◌, ◌++◌, map, length, get_or, take, Option, Some, None, is_none, refl, sym, ap, ap₂, ◌∙◌, subst, arith, inl, inr}
use Rattle.std.specs.Prelude.{◌⊎◌, IsSome, nat_lt, position}
use Rattle.std.specs.List.{All, list_any, position_or_len}
use Rattle.std.specs.Option.{option_map_or}
use Rattle.std.specs.Str.{bytes_eq}
use Rattle.std.proofs.lemmas.Bool.{false≢true, cases_Bool, lt-ltb, ltb-false}
use Rattle.std.proofs.lemmas.List.Elements.{All-cons, All-nil}
use Rattle.std.proofs.lemmas.List.Quantifiers.{position-Some}
use Rattle.std.proofs.lemmas.Slice.Eq.{slice_eq-Decides}
use Rattle.std.proofs.lemmas.List.{map-append, take_more}
use mathlib.Core.List.{map-map}
use Rattle.list_laws.proofs.Halves.{neither}
use Rattle.list_laws.proofs.Keys.{list_any-append, list_any-map}
use Rattle.list_laws.proofs.Lists.{get_or_past}
use Rattle.list_laws.proofs.Maps.{map_agree}
use Rattle.col_core.specs.declared.schema.Field.{Field}
use Rattle.col_core.specs.declared.leaf.Leaf.{Leaf}
use Rattle.col_core.specs.declared.leaf.Leaf.TheVariants as leaves
use Rattle.col_core.specs.Values.{value_at}
use Rattle.col_core.specs.Schemas.{field_position, type_named}
use Rattle.col_core.specs.Tables.{Row, field_at, no_field, values_at}
use Rattle.col_core.proofs.Equalities.{dtype_eq-Decides}
use Rattle.join_query.specs.declared.query.Query.{Query}
use Rattle.join_query.specs.declared.query.Side.TheVariants as sides
use Rattle.join_query.specs.declared.query.ColumnRef.{ColumnRef}
use Rattle.join_query.specs.declared.query.Reduction.{Reduction}
use Rattle.join_model.specs.ColumnRefs.{type_under, named_columns, is_unknown, filter_columns}
use Rattle.join_model.specs.Keys.{tuple}
use Rattle.join_model.specs.Refusals.{types_named, have_same_types, unknown_column}
use Rattle.join_probes.specs.Keys.{key_field, key_fields, AreKnown}

abbrev has_name : List ℕ → Field → Bool
has_name name f = bytes_eq f.name name

one_more : (n : ℕ) → 1 + n ≡ suc n
one_more n = omega arith

-- the type of the first field of a name, and that of no field without one
first_type : (schema : List Field) (name : List ℕ) → (field_at schema (position_or_len (has_name name) schema)).dtype ≡ type_under schema name
first_type [] name = refl
first_type (f ∷ fs) name = elim (cases_Bool (bytes_eq f.name name)) [
  | inl here ↦ rw here refl
  | inr other ↦ rw other (ap (λ (k : ℕ). (field_at (f ∷ fs) k).dtype) (one_more (position_or_len (has_name name) fs)) ∙ first_type fs name)
]

read_first : (schema : List Field) (n : ℕ) (b : Bool) → (b ≡ false → length schema ≤ n) → option_map_or (field_at schema) (cond b (Some n) None) no_field ≡ field_at schema n
read_first schema n true h = refl
read_first schema n false h = sym (get_or_past schema n no_field (h refl))

field_type : (schema : List Field) (name : List ℕ) → (key_field schema name).dtype ≡ type_under schema name
field_type schema name =
    let n = position_or_len (has_name name) schema in
    ap (λ (f : Field). f.dtype) (read_first schema n (nat_lt n (length schema)) (ltb-false n (length schema))) ∙ first_type schema name

-- the types of a key's fields are those of its names
key_types : (schema : List Field) (names : List (List ℕ)) → map (λ (f : Field). f.dtype) (key_fields schema names) ≡ types_named schema names
key_types schema names = map-map (λ (f : Field). f.dtype) (key_field schema) names ∙ map_agree _ _ (field_type schema) names

-- keys that have the same types by their names have them by their fields
pub same_types : (build : List Field) (build_keys : List (List ℕ)) (probe : List Field) (probe_keys : List (List ℕ)) → have_same_types build build_keys probe probe_keys ≡ true
    → map (λ (f : Field). f.dtype) (key_fields probe probe_keys) ≡ map (λ (f : Field). f.dtype) (key_fields build build_keys)
same_types build build_keys probe probe_keys h =
    key_types probe probe_keys
    ∙ sym ((slice_eq-Decides dtype_eq-Decides (types_named build build_keys) (types_named probe probe_keys) (have_same_types build build_keys probe probe_keys) refl).0 h)
    ∙ sym (key_types build build_keys)

pub heads : {X : Type 0} {x y : X} {a b : List X} → x ∷ a ≡ y ∷ b → x ≡ y
heads e = cc

pub tails : {X : Type 0} {x y : X} {a b : List X} → x ∷ a ≡ y ∷ b → a ≡ b
tails e = cc

pub nil_cons : {X : Type 0} {y : X} {t : List X} → [] ≡ y ∷ t → ⊥
nil_cons e = cc

-- the values and the fields of a key by the places of its columns
pub tuple_at : (schema : List Field) (names : List (List ℕ)) (places : List ℕ) (row : Row) → map (λ name. field_position name schema) names ≡ map (λ i. Some i) places → values_at row places ≡ tuple schema names row
tuple_at schema [] [] row e = refl
tuple_at schema [] (i ∷ is) row e = absurd (nil_cons e)
tuple_at schema (n ∷ ns) [] row e = absurd (nil_cons (sym e))
tuple_at schema (n ∷ ns) (i ∷ is) row e =
    ap₂ (λ (v : Leaf) (vs : Row). v ∷ vs) (sym (ap (λ (o : Option ℕ). option_map_or (value_at row) o leaves.Null) (heads e))) (tuple_at schema ns is row (tails e))

pub fields_at : (schema : List Field) (names : List (List ℕ)) (places : List ℕ) → map (λ name. field_position name schema) names ≡ map (λ i. Some i) places → map (field_at schema) places ≡ key_fields schema names
fields_at schema [] [] e = refl
fields_at schema [] (i ∷ is) e = absurd (nil_cons e)
fields_at schema (n ∷ ns) [] e = absurd (nil_cons (sym e))
fields_at schema (n ∷ ns) (i ∷ is) e =
    ap₂ (λ (f : Field) (fs : List Field). f ∷ fs) (sym (ap (λ (o : Option ℕ). option_map_or (field_at schema) o no_field) (heads e))) (fields_at schema ns is (tails e))

-- the places are within the schema
pub places_within : (schema : List Field) (names : List (List ℕ)) (places : List ℕ) → map (λ name. field_position name schema) names ≡ map (λ i. Some i) places → All (λ i. i < length schema) places
places_within schema [] [] e = All-nil (λ (i : ℕ). i < length schema)
places_within schema [] (i ∷ is) e = absurd (nil_cons e)
places_within schema (n ∷ ns) [] e = absurd (nil_cons (sym e))
places_within schema (n ∷ ns) (i ∷ is) e =
    All-cons (λ (i : ℕ). i < length schema) i is (position-Some (has_name n) schema i no_field (heads e)).0 (places_within schema ns is (tails e))

-- a list without a place of one that passes has none that passes
no_position : {X : Type 0} (p : X → Bool) (xs : List X) → position_or_len p xs < length xs ⊎ (list_any p xs ≡ false)
no_position p [] = inr refl
no_position p (x ∷ xs) = elim (cases_Bool (p x)) [
  | inl here ↦ inl (rw here (omega arith))
  | inr other ↦ elim (no_position p xs) [
    | inl less ↦ inl (rw other (omega (arith, less)))
    | inr none ↦ inr (rw (other, none) refl)
  ]
]

none_passes : {X : Type 0} (p : X → Bool) (xs : List X) → position p xs ≡ None → list_any p xs ≡ false
none_passes p xs h = elim (no_position p xs) [
  | inl less ↦
      let inside : nat_lt (position_or_len p xs) (length xs) ≡ true = lt-ltb _ _ less in
      let some : ◌≡◌ {A = Option ℕ} (Some (position_or_len p xs)) None = sym (rw inside refl) ∙ h in
      absurd cc
  | inr none ↦ none
]

named : (schema : List Field) (name : List ℕ) → is_none (type_named name schema) ≡ false → IsSome (field_position name schema)
named schema name h =
    let inside : nat_lt (position_or_len (has_name name) schema) (length schema) ≡ true = lt-ltb _ _ (within schema h) in
    rw inside refl
  where
    within : (schema : List Field) → is_none (type_named name schema) ≡ false → position_or_len (has_name name) schema < length schema
    within [] h = absurd (false≢true (sym h))
    within (f ∷ fs) h = elim (cases_Bool (bytes_eq f.name name)) [
      | inl here ↦ rw here (omega arith)
      | inr other ↦ let inner : is_none (type_named name fs) ≡ false = rw other at h in let rest = within fs inner in rw other (omega arith)
    ]

all_named : (schema : List Field) (names : List (List ℕ)) → list_any (λ name. is_none (type_named name schema)) names ≡ false → AreKnown schema names
all_named schema [] h = All-nil (λ (name : List ℕ). IsSome (field_position name schema))
all_named schema (n ∷ ns) h =
    let halves = neither (is_none (type_named n schema)) (list_any (λ (name : List ℕ). is_none (type_named name schema)) ns) h in
    All-cons (λ (name : List ℕ). IsSome (field_position name schema)) n ns (named schema n halves.0) (all_named schema ns halves.1)

none_of : {X : Type 0} (p : X → Bool) (xs ys : List X) → list_any p (xs ++ ys) ≡ false → (list_any p xs ≡ false) × (list_any p ys ≡ false)
none_of p xs ys h = neither (list_any p xs) (list_any p ys) (sym (list_any-append p xs ys) ∙ h)

-- the columns of the keys, of a query that names no unknown column
module _ (q : Query) (h : unknown_column q ≡ None) where
  abbrev build_refs : List ColumnRef
  build_refs = map (λ name. record { side = sides.Build; name = name }) q.build_keys

  abbrev probe_refs : List ColumnRef
  probe_refs = map (λ name. record { side = sides.Probe; name = name }) q.probe_keys

  halves : (list_any (is_unknown q) build_refs ≡ false) × (list_any (is_unknown q) probe_refs ≡ false)
  halves =
      let filters = filter_columns q.filter in
      let reduced = map (λ (r : Reduction). r.column) q.reductions in
      let grouped = none_of (is_unknown q) (build_refs ++ probe_refs ++ filters ++ q.group_keys) reduced (none_passes (is_unknown q) (named_columns q) h) in
      let filtered = none_of (is_unknown q) (build_refs ++ probe_refs ++ filters) q.group_keys grouped.0 in
      let keys = none_of (is_unknown q) (build_refs ++ probe_refs) filters filtered.0 in
      none_of (is_unknown q) build_refs probe_refs keys.0

  pub build_known : AreKnown q.build_schema q.build_keys
  build_known = all_named q.build_schema q.build_keys (sym (list_any-map (is_unknown q) (λ name. record { side = sides.Build; name = name }) q.build_keys) ∙ halves.0)

  pub probe_known : AreKnown q.probe_schema q.probe_keys
  probe_known = all_named q.probe_schema q.probe_keys (sym (list_any-map (is_unknown q) (λ name. record { side = sides.Probe; name = name }) q.probe_keys) ∙ halves.1)

-- one name more
pub places_more : (schema : List Field) (names : List (List ℕ)) (i : ℕ) (name : List ℕ) (olds news : List ℕ) (x : ℕ) → name ≡ get_or names i name → i < length names → news ≡ olds ++ x ∷ [] → field_position name schema ≡ Some x
    → map (λ (n : List ℕ). field_position n schema) (take i names) ≡ map (λ (k : ℕ). Some k) olds → map (λ (n : List ℕ). field_position n schema) (take (i + 1) names) ≡ map (λ (k : ℕ). Some k) news
places_more schema names i name olds news x e l new found old =
    let at : List ℕ → Option ℕ = λ n. field_position n schema in
    ap (map at) (take_more names i name l ∙ ap (λ (n : List ℕ). take i names ++ n ∷ []) (sym e)) ∙ map-append at (take i names) (name ∷ [])
    ∙ ap₂ (λ (os : List (Option ℕ)) (o : Option ℕ). os ++ o ∷ []) old found
    ∙ sym (ap (map (λ (k : ℕ). Some k)) new ∙ map-append (λ (k : ℕ). Some k) olds (x ∷ []))

-- the name of a column that is known has a place
pub known_at : (schema : List Field) (names : List (List ℕ)) (i : ℕ) (name : List ℕ) → AreKnown schema names → name ≡ get_or names i name → i < length names → IsSome (field_position name schema)
known_at schema names i name h e l = subst (λ (n : List ℕ). IsSome (field_position n schema)) (sym e) (h i name l)

pub ruleset placed = (tuple_at, fields_at, places_within)
