-- Local states that have taken all morsels give the groups of all rows, and their groupers the keys of their morsels.
use Rattle.std.proofs.Common.{◌≡◌, ℕ, zero, suc, ◌+◌, ◌<◌, ◌≤◌, eqb, List, [], ◌∷◌, ◌++◌, map, flat_map, length, get_or, bytes_eq, refl, sym, ap, ap₂, ◌∙◌, subst, ◌%◌, arith}
use Rattle.std.specs.List.{range_with_len}
use Rattle.std.proofs.lemmas.List.{length-map}
use Rattle.col_core.specs.declared.schema.Field.{Field}
use Rattle.col_core.specs.Tables.{Row, Table}
use Rattle.key_parts.specs.declared.hash.PlRandomState.{PlRandomState}
use Rattle.key_groups.specs.Groups.{KeyGroups}
use Rattle.reduce_states.specs.States.{State}
use Rattle.reduce_states.specs.Reductions.{Shape}
use Rattle.list_laws.specs.Each.{Each}
use Rattle.list_laws.specs.Distinct.{distinct}
use Rattle.list_laws.specs.Orders.{IsWhole, taken}
use Rattle.list_laws.specs.Places.{EachFrom}
use Rattle.list_laws.proofs.Each.{Each-filter, Each-flat_map, Each-map}
use Rattle.list_laws.proofs.Maps.{read_all}
use Rattle.list_laws.proofs.Orders.{filter_once}
use Rattle.list_laws.proofs.Ranges.{Each-range}
use Rattle.join_laws.specs.Locals.{rows_of_morsels}
use Rattle.join_query.specs.declared.query.Query.{Query}
use Rattle.join_model.specs.Answers.{group_schema}
use Rattle.join_model.specs.Groups.{group_keys, group_rows}
use Rattle.group_locals.specs.declared.local.LocalState.{LocalState}
use Rattle.group_locals.specs.Rows.{entry_key, top}
use Rattle.group_locals.specs.Locals.{LocalFits}
use Rattle.group_locals.specs.Merging.{keys_in}
use Rattle.group_locals.specs.History.{LocalHolds, taken_by}
use Rattle.group_locals.proofs.End.{groups_end, groups_few}
use Rattle.join_groups.specs.Keyed.{HasGroup, group_bytes, group_fields, grouping_of_query, keyed_row, plan_state}
use Rattle.join_groups.specs.History.{HaveTaken, answer_locals, groups_of_rows, keyed_morsels, rows_in}
use Rattle.join_groups.specs.Merged.{AreMergedRows}
use Rattle.join_groups.proofs.GroupRows.{group_rows_are}
use Rattle.join_groups.proofs.KeyBytes.{distinct_bytes}
use Rattle.join_groups.proofs.KeyedMorsels.{keys_in_order, morsels_keyed}

module _ {R : Type 0} (shape : R → Shape) (holds : R → List State → Type 0) (q : Query) (ms : List (List Row)) (order : List ℕ) (locals : List (LocalState R)) (have : HaveTaken shape holds q ms order locals) where
  -- the rows of the morsels of a local state have groups
  spelled_in : (s : ℕ) → Each (HasGroup q) (rows_in ms (taken q.plan.states order s))
  spelled_in s = Each-flat_map (HasGroup q) (λ i. get_or ms i []) (taken q.plan.states order s) (Each-filter (λ i. Each (HasGroup q) (get_or ms i [])) (λ i. eqb (i % q.plan.states) s) order have.spelled)

  keys_are : (s : ℕ) (l : LocalState R) → LocalHolds holds (grouping_of_query q) (taken_by (keyed_morsels q ms) q.plan.states order s) l → l.grouper.keys ≡ (groups_of_rows q (rows_in ms (taken q.plan.states order s))).keys
  keys_are s l h = h.keys_are ∙ ap (distinct bytes_eq) (keys_in_order q ms (taken q.plan.states order s)) ∙ distinct_bytes q (rows_in ms (taken q.plan.states order s)) (spelled_in s)

  grouper_is : (s : ℕ) (l : LocalState R) → LocalFits shape (grouping_of_query q) l → LocalHolds holds (grouping_of_query q) (taken_by (keyed_morsels q ms) q.plan.states order s) l → l.grouper ≡ groups_of_rows q (rows_in ms (taken q.plan.states order s))
  grouper_is s l fits h =
      let made : List (List ℕ) → List Field → PlRandomState → KeyGroups = λ keys schema state. record { keys = keys; schema = schema; state = state } in
      ap (λ (ks : List (List ℕ)). made ks l.grouper.schema l.grouper.state) (keys_are s l h)
      ∙ ap₂ (made (groups_of_rows q (rows_in ms (taken q.plan.states order s))).keys) fits.is_of.schema_is fits.is_of.state_is

  -- the groupers of the local states are those of the answer
  pub answer_locals_are : map (λ l. l.grouper) locals ≡ answer_locals q ms order
  answer_locals_are = along 0 locals have.fit.each have.hold ∙ ap (λ (n : ℕ). map (λ s. groups_of_rows q (rows_in ms (taken q.plan.states order s))) (range_with_len 0 n)) have.count
    where
      along : (a : ℕ) (ls : List (LocalState R)) → Each (LocalFits shape (grouping_of_query q)) ls → EachFrom (λ s l. LocalHolds holds (grouping_of_query q) (taken_by (keyed_morsels q ms) q.plan.states order s) l) a ls
          → map (λ l. l.grouper) ls ≡ map (λ s. groups_of_rows q (rows_in ms (taken q.plan.states order s))) (range_with_len a (length ls))
      along a [] fits h = refl
      along a (l ∷ ls) fits h = ap₂ (λ (g : KeyGroups) (gs : List KeyGroups). g ∷ gs) (grouper_is a l fits.0 h.0) (along (a + 1) ls fits.1 h.1)

  module _ (some : 0 < q.plan.states) (whole : IsWhole (length ms) order) (small : length (rows_of_morsels ms) ≤ top) where
    -- each row has a group
    all_spelled : Each (HasGroup q) (rows_of_morsels ms)
    all_spelled = Each-flat_map (HasGroup q) (λ m. m) ms (subst (Each (Each (HasGroup q))) (read_all ms []) (Each-map (Each (HasGroup q)) (λ i. get_or ms i []) (range_with_len 0 (length ms)) (Each-range (λ i. Each (HasGroup q) (get_or ms i [])) 0 (length ms) (λ i a b.
        (subst (Each (λ i. Each (HasGroup q) (get_or ms i []))) (filter_once order i (whole.once i (omega arith))) (Each-filter (λ i. Each (HasGroup q) (get_or ms i [])) (λ x. eqb x i) order have.spelled)).0))))

    whole_keyed : IsWhole (length (keyed_morsels q ms)) order
    whole_keyed = subst (λ (n : ℕ). IsWhole n order) (sym (length-map ms (map (keyed_row q)))) whole

    long_keyed : length (rows_of_morsels (keyed_morsels q ms)) ≡ length (rows_of_morsels ms)
    long_keyed = ap length (morsels_keyed q ms) ∙ length-map (rows_of_morsels ms) (keyed_row q)

    small_keyed : length (rows_of_morsels (keyed_morsels q ms)) ≤ top
    small_keyed = let e = long_keyed in omega arith

    -- the groups of all local states are no more than the rows
    pub keys_few : length (keys_in locals) ≤ length (rows_of_morsels ms)
    keys_few = subst (λ (n : ℕ). length (keys_in locals) ≤ n) long_keyed (groups_few holds (grouping_of_query q) (keyed_morsels q ms) q.plan.states order locals have.count some whole_keyed small_keyed have.hold)

    -- the merged groups are the groups of all rows
    pub merged_rows_are : (t : Table) → AreMergedRows holds q locals t → t ≡ record { schema = group_schema q; rows = group_rows q (rows_of_morsels ms) }
    merged_rows_are t are = group_rows_are q ms all_spelled are.groups t (groups_end holds (grouping_of_query q) (keyed_morsels q ms) q.plan.states order locals have.count some whole_keyed small_keyed have.hold are.groups are.merged) are.rows
