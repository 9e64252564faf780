-- Groups as a table: the rows of their keys in order, with what the reductions give beside them.
use Rattle.std.proofs.Common.{◌≡◌, ℕ, zero, suc, ◌+◌, ◌<◌, ◌≤◌, Bool, true, false, ◌&&◌, not, eqb, List, [], ◌∷◌, ◌++◌, map, length, get_or, take, append_assoc, Option, None, refl, sym, ap, ap₂, ◌∙◌, subst, arith}
use Rattle.std.specs.List.{All, list_any, range_with_len}
use Rattle.std.proofs.lemmas.Bool.{eq-eqb}
use Rattle.std.proofs.lemmas.List.{get_or-map, length-append, length-map, map-append, take_more}
use Rattle.std.proofs.lemmas.List.Elements.{All-append, All-get_or, All-head, All-map, All-weaker}
use Rattle.std.proofs.lemmas.List.Folds.{list_any_none}
use mathlib.Core.List.{map-map}
use Rattle.col_core.specs.declared.data_type.DataType.{DataType}
use Rattle.col_core.specs.declared.leaf.Leaf.{Leaf}
use Rattle.col_core.specs.declared.leaf.Leaf.TheVariants.{Null}
use Rattle.col_core.specs.declared.schema.Field.{Field}
use Rattle.col_core.specs.declared.frame.FrameError.{FrameError}
use Rattle.col_core.specs.Refusals.{differ_in_height, frame_refusal, has_types, height_of}
use Rattle.col_core.specs.Schemas.{dtype_eq}
use Rattle.col_core.specs.Tables.{AreColumnsOf, Column, Row, Table, header, row_at, rows_at, rows_from, taken, values_of}
use Rattle.col_core.proofs.Equalities.{dtype_eq-Decides}
use Rattle.col_core.proofs.Rows.{columns_taken, row_among, under_taken}
use Rattle.row_code.specs.Spelling.{IsRowOf, row_spelling}
use Rattle.key_groups.specs.Groups.{key_at, keys_at}
use Rattle.list_laws.specs.Each.{Each}
use Rattle.list_laws.specs.Places.{PairsFrom}
use Rattle.list_laws.proofs.Each.{All-from_Each}
use Rattle.list_laws.proofs.Lists.{map_same}
use Rattle.list_laws.proofs.Maps.{map_agree_on}
use Rattle.list_laws.proofs.Ranges.{Each-range}
use Rattle.join_query.specs.declared.query.Query.{Query}
use Rattle.join_query.specs.declared.query.Reduction.{Reduction}
use Rattle.join_model.specs.Answers.{group_schema, key_field, reduction_field, reduction_name}
use Rattle.group_locals.specs.declared.groups.Groups.{Groups}
use Rattle.group_locals.specs.declared.local.LocalState.{LocalState}
use Rattle.group_locals.specs.Orders.{AreMergedGroups, MergedColumn, ordered_keys}
use Rattle.reduce_states.specs.States.{State}
use Rattle.join_groups.specs.Keyed.{group_fields, grouping_of_query, shape_of}
use Rattle.join_groups.specs.Merged.{AreGroupRows, beside}

-- columns of one height
abbrev pub AreHigh : ℕ → List Column → Type 0
AreHigh n columns = All (λ (c : Column). length c.values ≡ n) columns

-- columns taken in an order
module _ (schema : List Field) (columns : List Column) (rows : List Row) (order : List ℕ) (under : AreColumnsOf schema columns (length rows)) (same : rows ≡ rows_from (length rows) (values_of columns)) (inside : All (λ i. i < length rows) order) where
  all_taken : AreColumnsOf schema (map (taken order) columns) (length order)
  all_taken = under_taken schema columns (length rows) order under inside

  pub taken_headers : (made : List Column) → made ≡ map (taken order) columns → map header made ≡ schema
  taken_headers made e = ap (map header) e ∙ all_taken.headers

  pub taken_high : (made : List Column) → made ≡ map (taken order) columns → AreHigh (length order) made
  taken_high made e = rw e all_taken.lengths

  pub taken_rows : (made : List Column) → made ≡ map (taken order) columns → rows_from (length order) (values_of made) ≡ rows_at rows order
  taken_rows made e = ap (λ (cs : List Column). rows_from (length order) (values_of cs)) e ∙ columns_taken columns (length rows) rows order same inside

-- columns of one height make a frame under fields of their types
dtype_same : (t : DataType) → dtype_eq t t ≡ true
dtype_same t = (dtype_eq-Decides t t).1 refl

typed : (schema : List Field) (columns : List Column) → map (λ f. f.dtype) schema ≡ map (λ c. c.dtype) columns → has_types schema columns ≡ true
typed [] [] e = refl
typed [] (c ∷ cs) e = absurd cc
typed (f ∷ fs) [] e = absurd cc
typed (f ∷ fs) (c ∷ cs) e =
    let one : f.dtype ≡ c.dtype = cc in
    let rest : map (λ f. f.dtype) fs ≡ map (λ c. c.dtype) cs = cc in
    let first : dtype_eq f.dtype c.dtype ≡ true = ap (dtype_eq f.dtype) (sym one) ∙ dtype_same f.dtype in
    rw (first, typed fs cs rest) refl

height_is : (n : ℕ) (columns : List Column) → 0 < length columns → AreHigh n columns → height_of columns ≡ n
height_is n [] l h = absurd (omega arith)
height_is n (c ∷ cs) l h = All-head (λ (c : Column). length c.values ≡ n) c cs h

level : (n : ℕ) (columns : List Column) → AreHigh n columns → differ_in_height columns ≡ false
level n [] h = refl
level n (c ∷ cs) h = list_any_none (λ (x : Column). not (eqb (length x.values) (length c.values))) (c ∷ cs) (All-weaker (λ (x : Column). length x.values ≡ n) (λ (x : Column). not (eqb (length x.values) (length c.values)) ≡ false) (λ x e. ap not (eq-eqb (length x.values) (length c.values) (e ∙ sym (All-head (λ (x : Column). length x.values ≡ n) c cs h)))) (c ∷ cs) h)

pub accepted : (schema : List Field) (columns : List Column) (n : ℕ) → map (λ f. f.dtype) schema ≡ map (λ c. c.dtype) columns → AreHigh n columns → frame_refusal schema columns ≡ None
accepted schema columns n types high =
    let long : length columns ≡ length schema = sym (length-map columns (λ (c : Column). c.dtype)) ∙ sym (ap length types) ∙ length-map schema (λ (f : Field). f.dtype) in
    rw (eq-eqb (length columns) (length schema) long, level n columns high, typed schema columns types) refl

map_agree_range : {B : Type 0} (n : ℕ) (f g : ℕ → B) → ((i : ℕ) → i < n → f i ≡ g i) → map f (range_with_len 0 n) ≡ map g (range_with_len 0 n)
map_agree_range n f g h = map_same f g (range_with_len 0 n) (Each-range (λ i. f i ≡ g i) 0 n (λ i a b. h i (omega arith)))

row_at-append : (xs ys : List (List Leaf)) (i : ℕ) → row_at (xs ++ ys) i ≡ row_at xs i ++ row_at ys i
row_at-append xs ys i = map-append (λ values. get_or values i Null) xs ys

-- what stands before the frame of groups is made
pub record AreParts (q : Query) (groups : Groups) (rows : Table) (keys : List Column) : Type 0 where
  pub some : 0 < length q.group_keys
  pub schema_is : groups.grouper.schema ≡ group_fields q
  pub inside : All (λ i. i < length groups.grouper.keys) groups.order
  pub types : map (λ c. c.dtype) groups.columns ≡ map (λ r. (reduction_field q r).dtype) q.reductions
  pub high : AreHigh (length groups.order) groups.columns
  pub rows_schema : rows.schema ≡ groups.grouper.schema
  pub fit : All (IsRowOf groups.grouper.schema) rows.rows
  pub spelled : groups.grouper.keys ≡ map (row_spelling groups.grouper.schema) rows.rows
  pub headers : map header keys ≡ rows.schema
  pub keys_high : AreHigh (length groups.order) keys
  pub keys_are : rows_from (length groups.order) (values_of keys) ≡ rows_at rows.rows groups.order

-- the same where the order was lent
pub parts_from : (q : Query) (groups : Groups) (rows : Table) (lent : List ℕ) (keys : List Column) → lent ≡ groups.order → 0 < length q.group_keys → groups.grouper.schema ≡ group_fields q → All (λ i. i < length groups.grouper.keys) groups.order → map (λ c. c.dtype) groups.columns ≡ map (λ r. (reduction_field q r).dtype) q.reductions → AreHigh (length groups.order) groups.columns
    → rows.schema ≡ groups.grouper.schema → All (IsRowOf groups.grouper.schema) rows.rows → groups.grouper.keys ≡ map (row_spelling groups.grouper.schema) rows.rows
    → map header keys ≡ rows.schema → AreHigh (length lent) keys → rows_from (length lent) (values_of keys) ≡ rows_at rows.rows lent → AreParts q groups rows keys
parts_from q groups rows lent keys e some schema inside types high rows_schema fit spelled headers keys_high keys_are = record {
  some = some;
  schema_is = schema;
  inside = inside;
  types = types;
  high = high;
  rows_schema = rows_schema;
  fit = fit;
  spelled = spelled;
  headers = headers;
  keys_high = subst (λ (o : List ℕ). AreHigh (length o) keys) e keys_high;
  keys_are = subst (λ (o : List ℕ). rows_from (length o) (values_of keys) ≡ rows_at rows.rows o) e keys_are;
}

module _ (q : Query) (groups : Groups) (rows : Table) (keys : List Column) (parts : AreParts q groups rows keys) where
  keys_headers : map header keys ≡ group_fields q
  keys_headers = parts.headers ∙ parts.rows_schema ∙ parts.schema_is

  types_are : map (λ f. f.dtype) (group_schema q) ≡ map (λ c. c.dtype) (keys ++ groups.columns)
  types_are =
      let dtype : Field → DataType = λ f. f.dtype in
      map-append dtype (group_fields q) (map (reduction_field q) q.reductions)
      ∙ ap₂ (λ (a b : List DataType). a ++ b) (ap (map dtype) (sym keys_headers) ∙ map-map dtype header keys) (map-map dtype (reduction_field q) q.reductions ∙ sym parts.types)
      ∙ sym (map-append (λ (c : Column). c.dtype) keys groups.columns)

  high : AreHigh (length groups.order) (keys ++ groups.columns)
  high = All-append (λ (c : Column). length c.values ≡ length groups.order) keys groups.columns parts.keys_high parts.high

  long : 0 < length (keys ++ groups.columns)
  long =
      let a = length-append keys groups.columns in
      let b : length keys ≡ length q.group_keys = sym (length-map keys header) ∙ ap length keys_headers ∙ length-map q.group_keys (key_field q) in
      let c = parts.some in
      omega arith

  -- the columns make a frame
  pub frame_accepted : (schema : List Field) (all : List Column) → schema ≡ group_schema q → all ≡ keys ++ groups.columns → frame_refusal schema all ≡ None
  frame_accepted schema all e f = ap₂ frame_refusal e f ∙ accepted (group_schema q) (keys ++ groups.columns) (length groups.order) types_are high

  abbrev tuples : List Row
  tuples = rows_at rows.rows groups.order

  as_many : length groups.grouper.keys ≡ length rows.rows
  as_many = ap length parts.spelled ∙ length-map rows.rows (row_spelling groups.grouper.schema)

  inside_rows : All (λ i. i < length rows.rows) groups.order
  inside_rows = subst (λ (n : ℕ). All (λ i. i < n) groups.order) as_many parts.inside

  rows_fit : All (IsRowOf (group_fields q)) tuples
  rows_fit = subst (λ (s : List Field). All (IsRowOf s) tuples) parts.schema_is (All-map (IsRowOf groups.grouper.schema) (λ i. get_or rows.rows i []) groups.order (λ k d l. parts.fit (get_or groups.order k d) [] (All-get_or (λ i. i < length rows.rows) groups.order k d l inside_rows)))

  rows_spelled : ordered_keys groups ≡ map (row_spelling (group_fields q)) tuples
  rows_spelled =
      ap (λ (ks : List (List ℕ)). keys_at ks groups.order) parts.spelled
      ∙ map_agree_on (key_at (map (row_spelling groups.grouper.schema) rows.rows)) (λ i. row_spelling groups.grouper.schema (get_or rows.rows i [])) groups.order (λ k d l. get_or-map (row_spelling groups.grouper.schema) rows.rows (get_or groups.order k d) [] [] (All-get_or (λ i. i < length rows.rows) groups.order k d l inside_rows))
      ∙ sym (map-map (row_spelling groups.grouper.schema) (λ i. get_or rows.rows i []) groups.order)
      ∙ ap (λ (s : List Field). map (row_spelling s) tuples) parts.schema_is

  rows_are : rows_from (length groups.order) (values_of (keys ++ groups.columns)) ≡ beside tuples (values_of groups.columns)
  rows_are =
      let n = length groups.order in
      let count : length tuples ≡ n = length-map groups.order (λ i. get_or rows.rows i []) in
      map_agree_range n (row_at (values_of (keys ++ groups.columns))) (λ i. get_or tuples i [] ++ row_at (values_of groups.columns) i) (λ i l.
      ap (λ (vs : List (List Leaf)). row_at vs i) (map-append (λ (c : Column). c.values) keys groups.columns)
      ∙ row_at-append (values_of keys) (values_of groups.columns) i
      ∙ ap (λ (row : Row). row ++ row_at (values_of groups.columns) i) (sym (row_among n (values_of keys) i l) ∙ ap (λ (rs : List Row). get_or rs i []) parts.keys_are))
      ∙ ap (λ (m : ℕ). map (λ i. get_or tuples i [] ++ row_at (values_of groups.columns) i) (range_with_len 0 m)) (sym count)

  -- the frame is the table of the groups
  pub frame_is : (schema : List Field) (all : List Column) (t : Table) → schema ≡ group_schema q → all ≡ keys ++ groups.columns → t ≡ record { schema = schema; rows = rows_from (height_of all) (values_of all) } → AreGroupRows q groups t
  frame_is schema all t e f h =
      let made : List Field → List Row → Table = λ s rs. record { schema = s; rows = rs } in
      record {
        keys = tuples;
        fit = rows_fit;
        spelled = rows_spelled;
        table_is = h ∙ ap₂ made e (ap (λ (cs : List Column). rows_from (height_of cs) (values_of cs)) f ∙ ap (λ (n : ℕ). rows_from n (values_of (keys ++ groups.columns))) (height_is (length groups.order) (keys ++ groups.columns) long high) ∙ rows_are);
      }

-- what merged groups give, by type and height
module _ {R : Type 0} (holds : R → List State → Type 0) (q : Query) (locals : List (LocalState R)) (ks : List (List ℕ)) where
  types_from : (n : ℕ) (rs : List Reduction) (cs : List Column) → PairsFrom (MergedColumn holds locals ks) n (map (shape_of q) rs) cs → map (λ c. c.dtype) cs ≡ map (λ r. (reduction_field q r).dtype) rs
  types_from n [] [] h = refl
  types_from n [] (c ∷ cs) h = absurd h
  types_from n (r ∷ rs) [] h = absurd h
  types_from n (r ∷ rs) (c ∷ cs) h = ap₂ (λ (t : DataType) (ts : List DataType). t ∷ ts) h.0.dtype_is (types_from (n + 1) rs cs h.1)

  high_from : (n : ℕ) (rs : List Reduction) (cs : List Column) → PairsFrom (MergedColumn holds locals ks) n (map (shape_of q) rs) cs → Each (λ c. length c.values ≡ length ks) cs
  high_from n [] [] h = tt
  high_from n [] (c ∷ cs) h = absurd h
  high_from n (r ∷ rs) [] h = absurd h
  high_from n (r ∷ rs) (c ∷ cs) h = (h.0.long, high_from (n + 1) rs cs h.1)

module _ {R : Type 0} (holds : R → List State → Type 0) (q : Query) (locals : List (LocalState R)) (g : Groups) (merged : AreMergedGroups holds (grouping_of_query q) locals g) where
  pub merged_types : map (λ c. c.dtype) g.columns ≡ map (λ r. (reduction_field q r).dtype) q.reductions
  merged_types = types_from holds q locals (ordered_keys g) 0 q.reductions g.columns merged.columns_are

  pub merged_high : AreHigh (length g.order) g.columns
  merged_high = subst (λ (n : ℕ). AreHigh n g.columns) (length-map g.order (key_at g.grouper.keys)) (All-from_Each (λ (c : Column). length c.values ≡ length (ordered_keys g)) g.columns (high_from holds q locals (ordered_keys g) 0 q.reductions g.columns merged.columns_are))

-- one field more
pub schema_more : (q : Query) (given : List Column) (fields news : List Field) (items : List Reduction) (i : ℕ) (r : Reduction) (c : Column) (name : List ℕ) (t : DataType)
    → map (λ c. c.dtype) given ≡ map (λ r. (reduction_field q r).dtype) q.reductions → items ≡ q.reductions → i < length items → r ≡ get_or items i r → c ≡ get_or given i c → t ≡ c.dtype → name ≡ reduction_name r
    → fields ≡ group_fields q ++ map (reduction_field q) (take i q.reductions) → news ≡ fields ++ record { name = name; dtype = t } ∷ [] → news ≡ group_fields q ++ map (reduction_field q) (take (i + 1) q.reductions)
schema_more q given fields news items i r c name t types same l at read typed named so_far more =
    let field : List ℕ → DataType → Field = λ name dtype. record { name = name; dtype = dtype } in
    let inside : i < length q.reductions = subst (λ (rs : List Reduction). i < length rs) same l in
    let long : length given ≡ length q.reductions = sym (length-map given (λ (c : Column). c.dtype)) ∙ ap length types ∙ length-map q.reductions (λ r. (reduction_field q r).dtype) in
    let there : r ≡ get_or q.reductions i r = at ∙ ap (λ (rs : List Reduction). get_or rs i r) same in
    let dtype : t ≡ (reduction_field q r).dtype = typed ∙ ap (λ (c : Column). c.dtype) read ∙ sym (get_or-map (λ (c : Column). c.dtype) given i c c.dtype (omega arith)) ∙ ap (λ (ts : List DataType). get_or ts i c.dtype) types
    ∙ get_or-map (λ r. (reduction_field q r).dtype) q.reductions i r c.dtype inside ∙ sym (ap (λ r. (reduction_field q r).dtype) there) in
    more ∙ ap₂ (λ (fs : List Field) (f : Field). fs ++ f ∷ []) so_far (ap₂ field named dtype)
    ∙ append_assoc (group_fields q) (map (reduction_field q) (take i q.reductions)) (reduction_field q r ∷ [])
    ∙ ap (λ (fs : List Field). group_fields q ++ fs) (sym (ap (map (reduction_field q)) (take_more q.reductions i r inside ∙ ap (λ (x : Reduction). take i q.reductions ++ x ∷ []) (sym there)) ∙ map-append (reduction_field q) (take i q.reductions) (r ∷ [])))
