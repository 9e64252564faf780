-- The groups of local states that have taken all morsels, in any order, are the groups of all rows.
use Rattle.std.proofs.Common.{◌≡◌, ℕ, ◌+◌, ◌<◌, ◌≤◌, List, [], ◌∷◌, ◌++◌, map, flat_map, length, refl, ap, ap₂, ◌∙◌, subst, zero-add, arith, bytes_eq}
use Rattle.std.specs.List.{range_with_len}
use Rattle.std.proofs.lemmas.Slice.Eq.{bytes_eq-Decides}
use Rattle.col_core.specs.Tables.{Column}
use Rattle.reduce_model.specs.Folds.{fold_of}
use Rattle.reduce_states.specs.States.{State, out}
use Rattle.reduce_states.specs.Reductions.{Shape}
use Rattle.list_laws.specs.Distinct.{distinct}
use Rattle.list_laws.specs.Orders.{IsWhole, taken}
use Rattle.list_laws.specs.Places.{EachFrom, At}
use Rattle.list_laws.proofs.Each.{Each-all}
use Rattle.join_laws.specs.Locals.{Entry, HoldAll, Local, block, of_key, rows_of_morsels}
use Rattle.join_laws.proofs.Bounds.{all_groups}
use Rattle.join_laws.proofs.Groups.{merged_column, merged_keys}
use Rattle.group_locals.specs.declared.groups.Groups.{Groups}
use Rattle.group_locals.specs.declared.local.LocalState.{LocalState}
use Rattle.group_locals.specs.Rows.{KeyedRow, values_for, entry_key, merge_of, column_state, top, first_number}
use Rattle.group_locals.specs.Locals.{Grouping}
use Rattle.group_locals.specs.Merging.{AreColumns, first_column, keys_in}
use Rattle.group_locals.specs.Orders.{AreMergedGroups, MergedColumn, ordered_keys}
use Rattle.group_locals.specs.History.{AreGroupsOf, GroupColumn, LocalHolds, LocalsHold, all_keys, taken_by}
use Rattle.group_locals.proofs.Pairs.{pairs_at_place, pairs_placed}
use Rattle.group_locals.proofs.States.{column_state-append, column_state-comm, column_state-out}

module _ {R : Type 0} (holds : R → List State → Type 0) (of : Grouping) (ms : List (List KeyedRow)) (n : ℕ) (order : List ℕ) where
  -- the columns of a history: first rows, and the states of reduction r under the shape s
  firsts_hold : (a : ℕ) (ls : List (LocalState R)) → EachFrom (λ i l. LocalHolds holds of (taken_by ms n order i) l) a ls → HoldAll bytes_eq entry_key first_number (map (taken_by ms n order) (range_with_len a (length ls))) (map first_column ls)
  firsts_hold a [] h = tt
  firsts_hold a (l ∷ ls) h = (record { keys_are = h.0.keys_are; values_are = h.0.firsts_are }, firsts_hold (a + 1) ls h.1)

  module _ (r : ℕ) (s : Shape) where
    abbrev columns_from : ℕ → List (LocalState R) → List (Local (List ℕ) State)
    columns_from a [] = []
    columns_from a (l ∷ ls) = record { keys = l.grouper.keys; values = map (λ k. column_state s r (of_key bytes_eq entry_key (taken_by ms n order a) k)) l.grouper.keys } ∷ columns_from (a + 1) ls

    columns_hold : (a : ℕ) (ls : List (LocalState R)) → EachFrom (λ i l. LocalHolds holds of (taken_by ms n order i) l) a ls → HoldAll bytes_eq entry_key (column_state s r) (map (taken_by ms n order) (range_with_len a (length ls))) (columns_from a ls)
    columns_hold a [] h = tt
    columns_hold a (l ∷ ls) h = (record { keys_are = h.0.keys_are; values_are = refl }, columns_hold (a + 1) ls h.1)

    are_columns : (a : ℕ) (ls : List (LocalState R)) → At (λ v. v ≡ s) r of.shapes → EachFrom (λ i l. LocalHolds holds of (taken_by ms n order i) l) a ls → AreColumns holds r ls (columns_from a ls)
    are_columns a [] at h = tt
    are_columns a (l ∷ ls) at h =
        let P : ℕ → Shape → R → Type 0 = λ i t b. holds b (map (λ k. column_state t i (of_key bytes_eq entry_key (taken_by ms n order a) k)) l.grouper.keys) in
        (refl, subst (λ (i : ℕ). At (P i s) r l.reductions) (zero-add r) (pairs_at_place P s 0 r of.shapes l.reductions at h.0.states_are), are_columns (a + 1) ls at h.1)

  module _ (locals : List (LocalState R)) (count : length locals ≡ n) (some : 0 < n) (whole : IsWhole (length ms) order) (small : length (rows_of_morsels ms) ≤ top) (history : LocalsHold holds of ms n order locals) where
    firsts : HoldAll bytes_eq entry_key first_number (map (taken_by ms n order) (range_with_len 0 n)) (map first_column locals)
    firsts = subst (λ (k : ℕ). HoldAll bytes_eq entry_key first_number (map (taken_by ms n order) (range_with_len 0 k)) (map first_column locals)) count (firsts_hold 0 locals history)

    -- the groups are no more than the rows
    pub groups_few : length (keys_in locals) ≤ length (rows_of_morsels ms)
    groups_few =
        let e = ap length (keys_seen 0 locals history) in
        let f = ap (λ (k : ℕ). length (flat_map keys_of_state (range_with_len 0 k))) count in
        let b = all_groups bytes_eq (λ (row : KeyedRow). row.key) ms n order some whole in
        omega arith
      where
        keys_of_state : ℕ → List (List ℕ)
        keys_of_state i = distinct bytes_eq (map (λ (e : Entry KeyedRow). e.row.key) (flat_map (block ms) (taken n order i)))

        keys_seen : (a : ℕ) (ls : List (LocalState R)) → EachFrom (λ i l. LocalHolds holds of (taken_by ms n order i) l) a ls → keys_in ls ≡ flat_map keys_of_state (range_with_len a (length ls))
        keys_seen a [] h = refl
        keys_seen a (l ∷ ls) h = ap₂ (λ (x y : List (List ℕ)). x ++ y) h.0.keys_are (keys_seen (a + 1) ls h.1)

    module _ (g : Groups) (groups : AreMergedGroups holds of locals g) where
      keys_are : ordered_keys g ≡ all_keys ms
      keys_are = merged_keys bytes_eq bytes_eq-Decides (λ (row : KeyedRow). row.key) ms n order some whole top (map first_column locals) (ordered_keys g) small firsts groups.keys_are

      column_is : (r : ℕ) (s : Shape) (c : Column) → At (λ v. v ≡ s) r of.shapes → MergedColumn holds locals (ordered_keys g) r s c → GroupColumn ms r s c
      column_is r s c at p = record {
        name_is = p.name_is;
        dtype_is = p.dtype_is;
        values_are = p.values_are (columns_from r s 0 locals) (are_columns r s 0 locals at history)
            ∙ merged_column bytes_eq bytes_eq-Decides (λ (row : KeyedRow). row.key) ms n order some whole (λ e. Unit {0}) (λ i. Each-all (λ e. Unit {0}) (block ms i) (λ e. tt)) (column_state s r) (merge_of s) (λ xs ys gx gy. column_state-append s r xs ys) (λ xs ys gx gy a. column_state-comm s r xs ys a) out (λ rows. fold_of s.kind s.dtype (values_for r rows)) (λ xs gx up. column_state-out s r xs up) top (map first_column locals) (columns_from r s 0 locals) (ordered_keys g) small firsts (subst (λ (k : ℕ). HoldAll bytes_eq entry_key (column_state s r) (map (taken_by ms n order) (range_with_len 0 k)) (columns_from r s 0 locals)) count (columns_hold r s 0 locals history)) groups.keys_are;
      }

      -- the merged groups are those of all rows, each reduction giving the plain fold of its values
      pub groups_end : AreGroupsOf of ms g
      groups_end = record {
        schema_is = groups.schema_is;
        inside = groups.inside;
        keys_are = keys_are;
        columns_are = pairs_placed (MergedColumn holds locals (ordered_keys g)) (GroupColumn ms) of.shapes g.columns column_is groups.columns_are;
      }
