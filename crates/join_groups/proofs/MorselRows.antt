-- The keys and the columns of joined rows can enter the local states of their query, as the keyed rows.
use Rattle.std.proofs.Common.{◌≡◌, ℕ, zero, suc, ◌+◌, ◌<◌, true, List, [], ◌∷◌, map, length, get_or, unwrap_or, Some, is_some, Bor, refl, sym, ap, ap₂, ◌∙◌, subst, arith}
use Rattle.std.specs.List.{All}
use Rattle.std.proofs.lemmas.List.{get_or-map, length-map}
use Rattle.std.proofs.lemmas.List.Elements.{All-map}
use mathlib.Core.List.{map-map}
use Rattle.col_core.specs.declared.data_type.DataType.{DataType}
use Rattle.col_core.specs.declared.leaf.Leaf.{Leaf}
use Rattle.col_core.specs.declared.schema.Field.{Field}
use Rattle.col_core.specs.declared.series.Series.{Series}
use Rattle.col_core.specs.Tables.{Column, Row, Table, field_at, row_at, rows_from, selected, values_at}
use Rattle.col_core.proofs.Rows.{row_among, transposed}
use Rattle.row_code.specs.Spelling.{IsRowOf, IsSpelling, row_spelling}
use Rattle.hash_keys.specs.declared.keys.HashKeys.{HashKeys}
use Rattle.hash_keys.specs.Keys.{Key}
use Rattle.hash_keys.specs.Rows.{row_keys}
use Rattle.hash_keys.specs.Views.{keys_of, state_of}
use Rattle.key_groups.specs.Groups.{bytes_of}
use Rattle.list_laws.specs.Each.{Each}
use Rattle.list_laws.specs.Places.{ChangedAt}
use Rattle.list_laws.proofs.Lists.{made_same}
use Rattle.list_laws.proofs.Maps.{map_agree}
use Rattle.join_query.specs.declared.query.Query.{Query}
use Rattle.join_query.specs.declared.query.Reduction.{Reduction}
use Rattle.join_model.specs.Answers.{joined_schema}
use Rattle.join_model.specs.ColumnRefs.{place_of, ref_type, ref_value}
use Rattle.join_model.specs.Groups.{group_key}
use Rattle.reduce_states.specs.Reductions.{Shape}
use Rattle.group_locals.specs.Rows.{KeyedRow, keyed_rows}
use Rattle.group_locals.specs.Locals.{RowsFit}
use Rattle.join_groups.specs.Keyed.{HasGroup, group_bytes, group_fields, grouping_of_query, keyed_row, plan_state, reduced_values, shape_of}
use Rattle.join_groups.proofs.Fields.{fields_placed, places_within, values_placed}

-- the group keys of rows, by the places of their columns
module _ (q : Query) (t : Table) (used places : List ℕ) (same : used ≡ places) (joined : t.schema ≡ joined_schema q) (at : map (place_of q) q.group_keys ≡ map (λ i. Some i) places) where
  placed_fields : map (field_at t.schema) places ≡ group_fields q
  placed_fields = ap (λ (s : List Field). map (field_at s) places) joined ∙ fields_placed q q.group_keys places at

  pub places_inside : All (λ i. i < length t.schema) used
  places_inside = rw (same, joined) (places_within q q.group_keys places at)

  pub keys_placed : row_keys true (selected used t) ≡ map {A = Row} {B = Key} (λ row. Some (group_bytes q row)) t.rows
  keys_placed =
      let key : List Field → Row → Key = λ fields row. Some (row_spelling fields row) in
      ap (λ (is : List ℕ). row_keys true (selected is t)) same
      ∙ map-map (key (map (field_at t.schema) places)) (λ row. values_at row places) t.rows
      ∙ map_agree (λ row. key (map (field_at t.schema) places) (values_at row places)) (λ row. Some (group_bytes q row)) (λ row. ap₂ key placed_fields (values_placed q row q.group_keys places at)) t.rows

  pub rows_placed : All (IsRowOf (selected used t).schema) (selected used t).rows → All (HasGroup q) t.rows
  rows_placed h k d l =
      let all : All (IsRowOf (selected places t).schema) (selected places t).rows = subst (λ (is : List ℕ). All (IsRowOf (selected is t).schema) (selected is t).rows) same h in
      let inside : k < length (selected places t).rows = subst (λ (n : ℕ). k < n) (sym (length-map t.rows (λ row. values_at row places))) l in
      let one = all k (values_at d places) inside in
      subst (λ (s : List Field). IsRowOf s (group_key q (get_or t.rows k d))) placed_fields
      (subst (IsRowOf (map (field_at t.schema) places)) (get_or-map (λ row. values_at row places) t.rows k d (values_at d places) l ∙ values_placed q (get_or t.rows k d) q.group_keys places at) one)

-- columns that are lent
module _ (q : Query) (rows : List Row) (keys : HashKeys) (used values : List (Bor Series)) (same : used ≡ values)
    (keys_are : keys_of keys ≡ map {A = Row} {B = Key} (λ row. Some (group_bytes q row)) rows)
    (values_are : map (λ v. v.now.values) values ≡ map (λ r. map (ref_value q r.column) rows) q.reductions) where
  bytes_are : bytes_of (keys_of keys) ≡ map (group_bytes q) rows
  bytes_are = ap bytes_of keys_are ∙ map-map (λ (k : Key). unwrap_or k []) (λ row. Some (group_bytes q row)) rows

  count : length (keys_of keys) ≡ length rows
  count = ap length keys_are ∙ length-map rows (λ row. Some (group_bytes q row))

  high : (vs : List (Bor Series)) (rs : List Reduction) → map (λ v. v.now.values) vs ≡ map (λ r. map (ref_value q r.column) rows) rs → Each (λ c. length c.values ≡ length (keys_of keys)) (map (λ v. v.now) vs)
  high [] rs e = tt
  high (v ∷ vs) [] e = absurd cc
  high (v ∷ vs) (r ∷ rs) e =
      let one : v.now.values ≡ map (ref_value q r.column) rows = cc in
      let rest : map (λ v. v.now.values) vs ≡ map (λ r. map (ref_value q r.column) rows) rs = cc in
      (ap length one ∙ length-map rows (ref_value q r.column) ∙ sym count, high vs rs rest)

  -- they can enter
  pub rows_fit : state_of keys ≡ plan_state q → All (HasGroup q) rows → map (λ v. v.now.dtype) values ≡ map (λ r. ref_type q r.column) q.reductions → RowsFit (grouping_of_query q) keys (map (λ v. v.now) used)
  rows_fit state spelled types = record {
    present = rw keys_are (All-map (λ (k : Key). is_some k ≡ true) (λ row. Some (group_bytes q row)) rows (λ k d l. refl));
    spelled = rw bytes_are (All-map (IsSpelling (group_fields q)) (group_bytes q) rows (λ k d l. (group_key q (get_or rows k d), record { of = spelled k d l; same = refl })));
    state_is = state;
    types_are = rw same (map-map (λ (c : Column). c.dtype) (λ v. v.now) values ∙ types ∙ sym (map-map (λ (s : Shape). s.dtype) (shape_of q) q.reductions));
    heights = rw same (high values q.reductions values_are);
  }

  -- and they are the keyed rows
  pub keyed_same : keyed_rows (bytes_of (keys_of keys)) (map (λ v. v.now.values) used) ≡ map (keyed_row q) rows
  keyed_same =
      let made : List ℕ → Row → KeyedRow = λ key values. record { key = key; values = values } in
      let columns = map (λ r. map (ref_value q r.column) rows) q.reductions in
      ap₂ keyed_rows bytes_are (ap (map (λ v. v.now.values)) same ∙ values_are)
      ∙ made_same (λ i. made (get_or (map (group_bytes q) rows) i []) (row_at columns i)) (length (map (group_bytes q) rows)) (map (keyed_row q) rows) (keyed_row q []) (length-map rows (keyed_row q) ∙ sym (length-map rows (group_bytes q))) (λ k l.
      let inside : k < length rows = subst (λ (n : ℕ). k < n) (length-map rows (group_bytes q)) l in
      ap₂ made (get_or-map (group_bytes q) rows k [] [] inside)
      (sym (row_among (length rows) columns k inside) ∙ ap (λ (rs : List Row). get_or rs k []) (transposed (λ (r : Reduction). ref_value q r.column) q.reductions rows) ∙ get_or-map (reduced_values q) rows k [] [] inside)
      ∙ sym (get_or-map (keyed_row q) rows k [] (keyed_row q []) inside))

-- nothing has changed
pub stays_at : {X : Type 0} (P : X → X → Type 0) → ((x : X) → P x x) → (i : ℕ) (xs : List X) → i < length xs → ChangedAt P i xs xs
stays_at P same i [] l = absurd (omega arith)
stays_at P same zero (x ∷ xs) l = (same x, refl)
stays_at P same (suc i) (x ∷ xs) l = (refl, stays_at P same i xs (omega arith))
