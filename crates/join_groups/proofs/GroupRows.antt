-- The groups of all rows by their bytes are, as a table, the groups of the rows.
use Rattle.std.proofs.Common.{◌≡◌, ℕ, ◌+◌, ◌<◌, List, [], ◌∷◌, ◌++◌, map, filter, flat_map, length, get_or, bytes_eq, refl, sym, ap, ap₂, ◌∙◌, subst, zero-add}
use Rattle.std.specs.List.{All, range_with_len}
use Rattle.std.proofs.lemmas.List.{length-map, get_or-map, map-append}
use mathlib.Core.List.{map-map}
use Rattle.col_core.specs.declared.leaf.Leaf.{Leaf}
use Rattle.col_core.specs.declared.leaf.Leaf.TheVariants as leaves
use Rattle.col_core.specs.declared.schema.Field.{Field}
use Rattle.col_core.specs.Tables.{Column, Row, Table, row_at, rows_from, values_of}
use Rattle.col_core.specs.Values.{value_at}
use Rattle.col_core.proofs.Rows.{row_among, transposed}
use Rattle.row_code.specs.Spelling.{IsRowOf, row_spelling}
use Rattle.reduce_model.specs.Folds.{fold_of}
use Rattle.reduce_states.specs.Reductions.{Shape}
use Rattle.list_laws.specs.Each.{Each}
use Rattle.list_laws.specs.Distinct.{distinct}
use Rattle.list_laws.specs.Places.{PairsFrom}
use Rattle.list_laws.proofs.Each.{Each-from_All, Each-weaker}
use Rattle.list_laws.proofs.Lists.{made_same, map_same}
use Rattle.list_laws.proofs.Maps.{map_agree, read_all}
use Rattle.list_laws.proofs.Places.{length-pairs, pairs_at}
use Rattle.join_laws.specs.Locals.{rows_of_morsels}
use Rattle.join_query.specs.declared.query.Query.{Query}
use Rattle.join_query.specs.declared.query.Reduction.{Reduction}
use Rattle.join_query.specs.declared.query.Side.TheVariants.{Build}
use Rattle.reduce_model.specs.declared.kind.ReductionKind.TheVariants.{Sum}
use Rattle.col_core.specs.declared.data_type.DataType.TheVariants.{Binary}
use Rattle.join_model.specs.ColumnRefs.{ref_type, ref_value}
use Rattle.join_model.specs.Keys.{tuple_eq}
use Rattle.join_model.specs.Groups.{group_key, group_keys, group_row, group_rows, members_of, reduced}
use Rattle.join_model.specs.Answers.{group_schema}
use Rattle.group_locals.specs.declared.groups.Groups.{Groups}
use Rattle.group_locals.specs.Rows.{KeyedRow, values_for}
use Rattle.group_locals.proofs.Tuples.{column_spelled, keys_spelled}
use Rattle.group_locals.specs.Orders.{ordered_keys}
use Rattle.group_locals.specs.History.{AreGroupsOf, GroupColumn, all_keys, rows_with}
use Rattle.join_groups.specs.Keyed.{HasGroup, group_bytes, group_fields, grouping_of_query, keyed_row, reduced_values, shape_of}
use Rattle.join_groups.specs.History.{keyed_morsels}
use Rattle.join_groups.specs.Merged.{AreGroupRows, beside}
use Rattle.join_groups.proofs.KeyedMorsels.{morsels_keyed}
use Rattle.join_groups.proofs.KeyBytes.{groups_fit, same_bytes, spelled_same}

-- a reduction and a column that stand for none
no_reduction : Reduction
no_reduction = record { kind = Sum; column = record { side = Build; name = [] } }

no_column : Column
no_column = record { name = []; dtype = Binary; values = [] }

-- keys beside columns that are given key by key
beside_made : {C : Type 0} (f : C → Row → Leaf) (cs : List C) (keys : List Row) → beside keys (map (λ c. map (f c) keys) cs) ≡ map (λ key. key ++ map (λ c. f c key) cs) keys
beside_made f cs keys = made_same (λ i. get_or keys i [] ++ row_at (map (λ c. map (f c) keys) cs) i) (length keys) (map (λ key. key ++ map (λ c. f c key) cs) keys) [] (length-map keys (λ key. key ++ map (λ c. f c key) cs)) (λ k l.
    let row = sym (row_among (length keys) (map (λ c. map (f c) keys) cs) k l) ∙ ap (λ (rows : List Row). get_or rows k []) (transposed f cs keys) ∙ get_or-map (λ key. map (λ c. f c key) cs) keys k [] [] l in
    ap (λ (vs : Row). get_or keys k [] ++ vs) row ∙ sym (get_or-map (λ key. key ++ map (λ c. f c key) cs) keys k [] [] l))

module _ (q : Query) (ms : List (List Row)) (fit : Each (HasGroup q) (rows_of_morsels ms)) where
  abbrev rows : List Row
  rows = rows_of_morsels ms

  abbrev keyed : List (List KeyedRow)
  keyed = keyed_morsels q ms

  -- the keys of all rows spell the group keys
  keys_are : all_keys keyed ≡ map (row_spelling (group_fields q)) (group_keys q rows)
  keys_are = keys_spelled tuple_eq (group_key q) (row_spelling (group_fields q)) (reduced_values q) (IsRowOf (group_fields q)) (same_bytes (group_fields q)) ms fit

  module _ (columns : List Column) (are : PairsFrom (GroupColumn keyed) 0 (map (shape_of q) q.reductions) columns) where
    abbrev given : Reduction → List Leaf → Leaf
    given r key = reduced q (members_of q rows key) r

    as_long : length columns ≡ length q.reductions
    as_long = length-pairs (GroupColumn keyed) 0 (map (shape_of q) q.reductions) columns are ∙ length-map q.reductions (shape_of q)

    column_is : (i : ℕ) → i < length q.reductions → (get_or columns i no_column).values ≡ map (given (get_or q.reductions i no_reduction)) (group_keys q rows)
    column_is i l =
        let r = get_or q.reductions i no_reduction in
        let s = shape_of q r in
        let inside : i < length (map (shape_of q) q.reductions) = subst (λ (n : ℕ). i < n) (sym (length-map q.reductions (shape_of q))) l in
        let at = pairs_at (GroupColumn keyed) 0 i (map (shape_of q) q.reductions) columns s no_column inside are in
        let here : GroupColumn keyed i (get_or (map (shape_of q) q.reductions) i s) (get_or columns i no_column) = subst (λ (k : ℕ). GroupColumn keyed k (get_or (map (shape_of q) q.reductions) i s) (get_or columns i no_column)) (zero-add i) at in
        let column = subst (λ (t : Shape). GroupColumn keyed i t (get_or columns i no_column)) (get_or-map (shape_of q) q.reductions i no_reduction s l) here in
        column.values_are
        ∙ column_spelled tuple_eq (group_key q) (row_spelling (group_fields q)) (reduced_values q) (IsRowOf (group_fields q)) (same_bytes (group_fields q)) ms fit s i
        ∙ map_agree (λ key. fold_of s.kind s.dtype (map (λ row. value_at (reduced_values q row) i) (members_of q rows key))) (given r) (λ key. ap (fold_of s.kind s.dtype) (
        map_agree (λ row. value_at (reduced_values q row) i) (ref_value q r.column) (λ row. get_or-map (λ (r : Reduction). ref_value q r.column row) q.reductions i no_reduction leaves.Null l) (members_of q rows key))) (group_keys q rows)

    columns_are : values_of columns ≡ map (λ r. map (given r) (group_keys q rows)) q.reductions
    columns_are =
        let made : Reduction → List Leaf = λ r. map (given r) (group_keys q rows) in
        sym (read_all (values_of columns) [])
        ∙ ap (λ (n : ℕ). map (λ i. get_or (values_of columns) i []) (range_with_len 0 n)) (length-map columns (λ (c : Column). c.values) ∙ as_long)
        ∙ made_same (λ i. get_or (values_of columns) i []) (length q.reductions) (map made q.reductions) [] (length-map q.reductions made) (λ k l.
        get_or-map (λ (c : Column). c.values) columns k no_column [] (subst (λ (n : ℕ). k < n) (sym as_long) l) ∙ column_is k l ∙ sym (get_or-map made q.reductions k no_reduction [] l))

  -- the groups of all rows, as a table
  pub group_rows_are : (g : Groups) (t : Table) → AreGroupsOf (grouping_of_query q) keyed g → AreGroupRows q g t → t ≡ record { schema = group_schema q; rows = group_rows q rows }
  group_rows_are g t of are =
      let keys : are.keys ≡ group_keys q rows = spelled_same (group_fields q) are.keys (group_keys q rows) (Each-from_All (IsRowOf (group_fields q)) are.keys are.fit) (groups_fit q rows fit) (sym are.spelled ∙ of.keys_are ∙ keys_are) in
      are.table_is ∙ ap (λ (rs : List Row). record { schema = group_schema q; rows = rs }) (
      ap₂ beside keys (columns_are g.columns of.columns_are)
      ∙ beside_made (λ r key. reduced q (members_of q rows key) r) q.reductions (group_keys q rows))
