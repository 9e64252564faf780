-- The bytes of group keys are equal exactly where the keys are.
use Rattle.std.proofs.Common.{◌≡◌, ℕ, Bool, List, [], ◌∷◌, map, filter, refl, sym, ap, ap₂, ◌∙◌, bytes_eq}
use Rattle.std.specs.Bool.{Decides}
use Rattle.std.specs.List.{All}
use Rattle.std.proofs.lemmas.Bool.Decides.{same_from_decides}
use Rattle.std.proofs.lemmas.Slice.Eq.{bytes_eq-Decides}
use mathlib.Core.List.{map-map}
use Rattle.col_core.specs.declared.leaf.Leaf.{Leaf}
use Rattle.col_core.specs.declared.schema.Field.{Field}
use Rattle.col_core.specs.Tables.{Row}
use Rattle.row_code.specs.Spelling.{IsRowOf, row_spelling}
use Rattle.row_code.proofs.Apart.{same_rows}
use Rattle.list_laws.specs.Each.{Each}
use Rattle.list_laws.specs.Distinct.{distinct}
use Rattle.list_laws.proofs.Distinct.{all_distinct}
use Rattle.list_laws.proofs.Each.{Each-from_All, All-from_Each, Each-map, Each-weaker}
use Rattle.list_laws.proofs.Filters.{filter-map, filter_same}
use Rattle.join_laws.proofs.Bounds.{distinct-map}
use Rattle.join_query.specs.declared.query.Query.{Query}
use Rattle.join_model.specs.Keys.{tuple_eq}
use Rattle.join_model.specs.Groups.{group_key, group_keys, members_of}
use Rattle.join_model.proofs.Decides.{tuple_eq-Decides}
use Rattle.group_locals.specs.Rows.{KeyedRow}
use Rattle.join_groups.specs.Keyed.{HasGroup, group_bytes, group_fields, keyed_row}

-- two rows of fields have equal bytes exactly where they are equal
pub same_bytes : (fs : List Field) (a b : Row) → IsRowOf fs a → IsRowOf fs b → bytes_eq (row_spelling fs a) (row_spelling fs b) ≡ tuple_eq a b
same_bytes fs a b ha hb = same_from_decides (bytes_eq (row_spelling fs a) (row_spelling fs b)) (tuple_eq a b) by_bytes (tuple_eq-Decides a b)
  where
    by_bytes : Decides (bytes_eq (row_spelling fs a) (row_spelling fs b)) (a ≡ b)
    by_bytes =
        let d = bytes_eq-Decides (row_spelling fs a) (row_spelling fs b) in
        (λ h. same_rows fs a b ha hb (d.0 h), λ e. d.1 (ap (row_spelling fs) e))

-- rows that are spelled alike, one by one, are the same
pub spelled_same : (fs : List Field) (xs ys : List Row) → Each (IsRowOf fs) xs → Each (IsRowOf fs) ys → map (row_spelling fs) xs ≡ map (row_spelling fs) ys → xs ≡ ys
spelled_same fs [] [] hx hy e = refl
spelled_same fs [] (y ∷ ys) hx hy e = absurd cc
spelled_same fs (x ∷ xs) [] hx hy e = absurd cc
spelled_same fs (x ∷ xs) (y ∷ ys) hx hy e =
    let first : row_spelling fs x ≡ row_spelling fs y = cc in
    let rest : map (row_spelling fs) xs ≡ map (row_spelling fs) ys = cc in
    ap₂ (λ (a : Row) (more : List Row). a ∷ more) (same_rows fs x y hx.0 hy.0 first) (spelled_same fs xs ys hx.1 hy.1 rest)

module _ (q : Query) (rows : List Row) (fit : Each (HasGroup q) rows) where
  keys_fit : Each (IsRowOf (group_fields q)) (map (group_key q) rows)
  keys_fit = Each-map (IsRowOf (group_fields q)) (group_key q) rows fit

  -- the distinct group keys fit
  pub groups_fit : Each (IsRowOf (group_fields q)) (group_keys q rows)
  groups_fit = Each-from_All (IsRowOf (group_fields q)) (group_keys q rows) (all_distinct tuple_eq tuple_eq-Decides (IsRowOf (group_fields q)) (map (group_key q) rows) (All-from_Each (IsRowOf (group_fields q)) (map (group_key q) rows) keys_fit))

  -- the distinct bytes of group keys spell the distinct group keys
  pub distinct_bytes : distinct bytes_eq (map (group_bytes q) rows) ≡ map (row_spelling (group_fields q)) (group_keys q rows)
  distinct_bytes =
      ap (distinct bytes_eq) (sym (map-map (row_spelling (group_fields q)) (group_key q) rows))
      ∙ distinct-map tuple_eq bytes_eq (IsRowOf (group_fields q)) (row_spelling (group_fields q)) (same_bytes (group_fields q)) [] (map (group_key q) rows) tt keys_fit
