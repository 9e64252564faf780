-- Local states keep their history.
use Rattle.std.proofs.Common.{◌≡◌, ℕ, zero, suc, ◌+◌, ◌<◌, ◌%◌, min, eqb, true, false, List, [], ◌∷◌, ◌++◌, map, filter, flat_map, length, get_or, refl, sym, ap, ap₂, ◌∙◌, subst, append-nil, zero-add, arith, bytes_eq}
use Rattle.std.proofs.lemmas.Bool.{eq-eqb, ne_eqb}
use Rattle.std.proofs.lemmas.List.Concat.{flat_map-append}
use Rattle.std.proofs.lemmas.List.Elements.{filter-append}
use Rattle.std.proofs.lemmas.Slice.Eq.{bytes_eq-Decides}
use Rattle.col_core.specs.declared.leaf.Leaf.{Leaf}
use Rattle.key_groups.specs.Groups.{KeyGroups, with_keys}
use Rattle.reduce_states.specs.States.{State}
use Rattle.reduce_states.specs.Reductions.{Shape}
use Rattle.list_laws.specs.Each.{Each}
use Rattle.list_laws.specs.Orders.{taken}
use Rattle.list_laws.specs.Places.{EachFrom, ChangedAt}
use Rattle.list_laws.proofs.Ascending.{least-append}
use Rattle.list_laws.proofs.Each.{Each-all}
use Rattle.join_laws.specs.Locals.{Entry, Holds, block, entries_from, first_row, of_key}
use Rattle.join_laws.proofs.Locals.{holds_more}
use Rattle.group_locals.specs.declared.local.LocalState.{LocalState}
use Rattle.group_locals.specs.Rows.{KeyedRow, keyed_rows, entry_key, entry_number, merge_of, column_state, top, first_number}
use Rattle.group_locals.specs.Locals.{Grouping, LocalFits, LocalTakes, TakesColumn, sized, taken_values}
use Rattle.group_locals.specs.History.{LocalHolds, LocalsHold, taken_by}
use Rattle.group_locals.proofs.Pairs.{pairs_alike, pairs_both, pairs_via}
use Rattle.group_locals.proofs.States.{column_state-append}

no_need : (es : List (Entry KeyedRow)) → Each (λ e. Unit {0}) es
no_need es = Each-all (λ e. Unit {0}) es (λ e. tt)

module _ {R : Type 0} (shape : R → Shape) (holds : R → List State → Type 0) (of : Grouping) where
  -- a local state that took more entries is that of these too
  module _ (xs ys : List (Entry KeyedRow)) (l m : LocalState R) (fits : LocalFits shape of l) (h : LocalHolds holds of xs l) (t : LocalTakes shape holds ys l m) where
    new_keys : m.grouper.keys ≡ with_keys l.grouper.keys (map entry_key ys)
    new_keys = ap (λ (g : KeyGroups). g.keys) t.grouper_is

    firsts_more : Holds bytes_eq entry_key first_number (xs ++ ys) (record { keys = m.grouper.keys; values = m.first_rows })
    firsts_more = holds_more bytes_eq bytes_eq-Decides entry_key (λ e. Unit {0}) first_number min (λ a b ga gb. least-append top entry_number a b) xs ys (record { keys = l.grouper.keys; values = l.first_rows }) (record { keys = m.grouper.keys; values = m.first_rows }) (no_need xs) (no_need ys) (record { keys_are = h.keys_are; values_are = h.firsts_are }) (record { keys_are = new_keys; values_are = t.firsts_are })

    states_more : (s : Shape) (r : ℕ) → taken_values (column_state s r) (merge_of s) l.grouper.keys (map (λ k. column_state s r (of_key bytes_eq entry_key xs k)) l.grouper.keys) ys m.grouper.keys ≡ map (λ k. column_state s r (of_key bytes_eq entry_key (xs ++ ys) k)) m.grouper.keys
    states_more s r =
        let before = map (λ k. column_state s r (of_key bytes_eq entry_key xs k)) l.grouper.keys in
        (holds_more bytes_eq bytes_eq-Decides entry_key (λ e. Unit {0}) (column_state s r) (merge_of s) (λ a b ga gb. column_state-append s r a b) xs ys (record { keys = l.grouper.keys; values = before }) (record { keys = m.grouper.keys; values = taken_values (column_state s r) (merge_of s) l.grouper.keys before ys m.grouper.keys }) (no_need xs) (no_need ys) (record { keys_are = h.keys_are; values_are = refl }) (record { keys_are = new_keys; values_are = refl })).values_are

    pub local_more : LocalHolds holds of (xs ++ ys) m
    local_more =
        let n = length l.grouper.keys in
        let Before : ℕ → Shape → R → Type 0 = λ r s a. (shape a ≡ sized n s) × holds a (map (λ k. column_state s r (of_key bytes_eq entry_key xs k)) l.grouper.keys) in
        record {
          keys_are = firsts_more.keys_are;
          firsts_are = firsts_more.values_are;
          states_are = pairs_via Before (TakesColumn shape holds l.grouper.keys m.grouper.keys ys) (λ r s b. holds b (map (λ k. column_state s r (of_key bytes_eq entry_key (xs ++ ys) k)) m.grouper.keys)) (λ r s a b p q.
              let before = map (λ k. column_state s r (of_key bytes_eq entry_key xs k)) l.grouper.keys in
              subst (holds b) (ap (λ (t : Shape). taken_values (column_state t r) (merge_of t) l.grouper.keys before ys m.grouper.keys) p.0 ∙ states_more s r) (q.states before p.1))
              0 of.shapes l.reductions m.reductions (pairs_both (λ r s a. shape a ≡ sized n s) (λ r s a. holds a (map (λ k. column_state s r (of_key bytes_eq entry_key xs k)) l.grouper.keys)) Before (λ r s a p q. (p, q)) 0 of.shapes l.reductions (pairs_alike (sized n) shape 0 of.shapes l.reductions fits.is_of.shapes_are) h.states_are) t.columns;
        }

  module _ (ms : List (List KeyedRow)) (n : ℕ) (seen : List ℕ) (i : ℕ) where
    taken_more : (s : ℕ) → i % n ≡ s → taken_by ms n (seen ++ i ∷ []) s ≡ taken_by ms n seen s ++ block ms i
    taken_more s e =
        ap (flat_map (block ms)) (filter-append (λ i. eqb (i % n) s) seen (i ∷ []) ∙ ap (λ (t : List ℕ). taken n seen s ++ t) (one (eq-eqb (i % n) s e)))
        ∙ flat_map-append (block ms) (taken n seen s) (i ∷ [])
        ∙ ap (λ (t : List (Entry KeyedRow)). taken_by ms n seen s ++ t) (append-nil (block ms i))
      where
        one : eqb (i % n) s ≡ true → filter (λ i. eqb (i % n) s) (i ∷ []) ≡ i ∷ []
        one h = rw h refl

    taken_same : (s : ℕ) → (i % n ≡ s → ⊥) → taken_by ms n seen s ≡ taken_by ms n (seen ++ i ∷ []) s
    taken_same s ne = ap (flat_map (block ms)) (sym (filter-append (λ i. eqb (i % n) s) seen (i ∷ []) ∙ ap (λ (t : List ℕ). taken n seen s ++ t) (none (ne_eqb (i % n) s ne)) ∙ append-nil (taken n seen s)))
      where
        none : eqb (i % n) s ≡ false → filter (λ i. eqb (i % n) s) (i ∷ []) ≡ []
        none h = rw h refl

    others_same : (a : ℕ) (ls : List (LocalState R)) → i % n < a → EachFrom (λ s l. LocalHolds holds of (taken_by ms n seen s) l) a ls → EachFrom (λ s l. LocalHolds holds of (taken_by ms n (seen ++ i ∷ []) s) l) a ls
    others_same a [] l h = tt
    others_same a (x ∷ xs) l h = (subst (λ (es : List (Entry KeyedRow)). LocalHolds holds of es x) (taken_same a (λ e. omega arith)) h.0, others_same (a + 1) xs (omega arith) h.1)

    hold_from : (a p : ℕ) (ls ks : List (LocalState R)) → i % n ≡ a + p → Each (LocalFits shape of) ls → EachFrom (λ s l. LocalHolds holds of (taken_by ms n seen s) l) a ls → ChangedAt (LocalTakes shape holds (block ms i)) p ls ks → EachFrom (λ s l. LocalHolds holds of (taken_by ms n (seen ++ i ∷ []) s) l) a ks
    hold_from a p [] ks e fits h c = absurd c
    hold_from a p (x ∷ xs) [] e fits h c = absurd c
    hold_from a zero (x ∷ xs) (y ∷ ys) e fits h c =
        let here : i % n ≡ a = omega arith in
        (subst (λ (es : List (Entry KeyedRow)). LocalHolds holds of es y) (sym (taken_more a here)) (local_more (taken_by ms n seen a) (block ms i) x y fits.0 h.0 c.0), subst (EachFrom (λ s l. LocalHolds holds of (taken_by ms n (seen ++ i ∷ []) s) l) (a + 1)) (sym c.1) (others_same (a + 1) xs (omega arith) h.1))
    hold_from a (suc p) (x ∷ xs) (y ∷ ys) e fits h c =
        (subst (λ (es : List (Entry KeyedRow)). LocalHolds holds of es y) (taken_same a (λ q. omega arith)) (subst (LocalHolds holds of (taken_by ms n seen a)) (sym c.0) h.0), hold_from (a + 1) p xs ys (omega arith) fits.1 h.1 c.1)

    -- the loop's step: one more morsel was taken
    pub locals_hold : (ls ks : List (LocalState R)) → Each (LocalFits shape of) ls → LocalsHold holds of ms n seen ls → ChangedAt (LocalTakes shape holds (block ms i)) (i % n) ls ks → LocalsHold holds of ms n (seen ++ i ∷ []) ks
    locals_hold ls ks fits h c = hold_from 0 (i % n) ls ks (sym (zero-add (i % n))) fits h c

  -- nothing was taken yet
  pub locals_none : (ms : List (List KeyedRow)) (n : ℕ) (ls : List (LocalState R)) → Each (LocalHolds holds of []) ls → LocalsHold holds of ms n [] ls
  locals_none ms n ls h = along 0 ls h
    where
      along : (a : ℕ) (ls : List (LocalState R)) → Each (LocalHolds holds of []) ls → EachFrom (λ s l. LocalHolds holds of (taken_by ms n [] s) l) a ls
      along a [] h = tt
      along a (l ∷ ls) h = (h.0, along (a + 1) ls h.1)

  -- the same for a morsel of keys and columns
  pub morsel_taken : (ms : List (List KeyedRow)) (n : ℕ) (seen : List ℕ) (i : ℕ) (keys : List (List ℕ)) (columns : List (List Leaf)) (first : ℕ) (ls ks : List (LocalState R)) → length ls ≡ n → get_or ms i [] ≡ keyed_rows keys columns → first ≡ first_row ms i → Each (LocalFits shape of) ls → LocalsHold holds of ms n seen ls → ChangedAt (LocalTakes shape holds (entries_from i first (keyed_rows keys columns))) (i % length ls) ls ks → LocalsHold holds of ms n (seen ++ i ∷ []) ks
  morsel_taken ms n seen i keys columns first ls ks count rows start fits h c =
      locals_hold ms n seen i ls ks fits h
      (subst (λ (k : ℕ). ChangedAt (LocalTakes shape holds (block ms i)) (i % k) ls ks) count
      (subst (λ (es : List (Entry KeyedRow)). ChangedAt (LocalTakes shape holds es) (i % length ls) ls ks) (ap₂ (entries_from i) start (sym rows)) c))
