-- Groups in the order of their first rows are the merged groups.
use Rattle.std.proofs.Common.{◌≡◌, ℕ, zero, suc, ◌+◌, ◌<◌, ◌≤◌, eqb, Bool, true, false, ◌||◌, List, [], ◌∷◌, map, length, get_or, IsPermutation, refl, sym, ap, ap₂, ◌∙◌, subst, inl, inr, arith, bytes_eq}
use Rattle.std.specs.List.{list_any, range_with_len, All, flat_map}
use Rattle.std.proofs.lemmas.Bool.{cases_Bool, cases_lt, false≢true, eq-eqb}
use Rattle.std.proofs.lemmas.List.{length-map, get_or-map}
use Rattle.std.proofs.lemmas.List.Sorted.{list_any-IsPermutation, IsPermutation-map}
use Rattle.std.proofs.lemmas.Slice.Eq.{bytes_eq-Decides}
use mathlib.Core.List.{map-map}
use Rattle.col_core.specs.declared.leaf.Leaf.{Leaf}
use Rattle.col_core.specs.declared.leaf.Leaf.TheVariants as leaves
use Rattle.col_core.specs.Tables.{Column, values_at}
use Rattle.col_core.specs.Values.{value_at}
use Rattle.reduce_model.specs.Folds.{reduced_type}
use Rattle.reduce_states.specs.States.{State, out}
use Rattle.reduce_states.specs.Reductions.{Shape}
use Rattle.key_groups.specs.Groups.{KeyGroups, key_at, keys_at}
use Rattle.list_laws.specs.Ascending.{Rises}
use Rattle.list_laws.specs.Each.{Each}
use Rattle.list_laws.specs.Distinct.{NoRepeat}
use Rattle.list_laws.specs.Places.{PairsFrom}
use Rattle.list_laws.proofs.Each.{All-from_Each}
use Rattle.list_laws.proofs.Keys.{any_distinct, distinct_apart, list_any-append}
use Rattle.list_laws.proofs.Maps.{read_all}
use Rattle.join_laws.specs.Locals.{Local}
use Rattle.join_laws.proofs.Steps.{sorted_keys}
use Rattle.group_locals.specs.declared.groups.Groups.{Groups}
use Rattle.group_locals.specs.declared.local.LocalState.{LocalState}
use Rattle.group_locals.specs.Rows.{top}
use Rattle.group_locals.specs.Locals.{Grouping, sized}
use Rattle.group_locals.specs.Merging.{AreColumns, MergesAll, first_column, keys_in, merged_first, merged_state}
use Rattle.group_locals.specs.Orders.{AreMergedGroups, AreOrderedGroups, FinishedColumn, IsOrder, MergedColumn, ordered_keys}
use Rattle.group_locals.proofs.Pairs.{pairs_alike, pairs_both, pairs_via}

-- the numbers of an order are below the count
pub order_below : (n : ℕ) (order : List ℕ) → IsPermutation (range_with_len 0 n) order → Each (λ g. g < n) order
order_below n order perm = each order (λ g h. small g (list_any-IsPermutation (λ x. eqb x g) (range_with_len 0 n) order perm ∙ h))
  where
    past : (a n g : ℕ) → a + n ≤ g → list_any (λ x. eqb x g) (range_with_len a n) ≡ false
    past a zero g l = refl
    past a (suc n) g l = elim (cases_Bool (eqb a g)) [
      | inl same ↦ absurd (clash same)
      | inr apart ↦ rw apart (past (a + 1) n g (omega arith))
    ]
      where
        clash : eqb a g ≡ true → ⊥
        clash h = grind arith

    small : (g : ℕ) → list_any (λ x. eqb x g) (range_with_len 0 n) ≡ true → g < n
    small g h = elim (cases_lt g n) [
      | inl low ↦ low
      | inr high ↦ absurd (false≢true (sym (past 0 n g (omega arith)) ∙ h))
    ]

    or_true : (b : Bool) → (b || true) ≡ true
    or_true true = refl
    or_true false = refl

    each : (gs : List ℕ) → ((g : ℕ) → list_any (λ x. eqb x g) gs ≡ true → g < n) → Each (λ g. g < n) gs
    each [] f = tt
    each (g ∷ gs) f = (f g (rw (eq-eqb g g refl) refl), each gs (λ k h. f k (rw h (or_true (eqb g k)))))

-- where each call has its own name for a list
pub order_inside : (first_rows order os : List ℕ) (n : ℕ) → length first_rows ≡ n → IsOrder first_rows order → os ≡ order → All (λ g. g < n) os
order_inside first_rows order os n e o same = All-from_Each (λ g. g < n) os (subst (Each (λ g. g < n)) (sym same) (order_below n order (subst (λ (k : ℕ). IsPermutation (range_with_len 0 k) order) e o.whole)))

any_flat_map : {A B : Type 0} (p : B → Bool) (f : A → List B) (xs : List A) → list_any p (flat_map f xs) ≡ list_any (λ x. list_any p (f x)) xs
any_flat_map p f [] = refl
any_flat_map p f (x ∷ xs) = list_any-append p (f x) (flat_map f xs) ∙ ap (λ b. list_any p (f x) || b) (any_flat_map p f xs)

any_firsts : {R : Type 0} (k : List ℕ) (ls : List (LocalState R)) → list_any (λ l. list_any (λ s. bytes_eq s k) l.grouper.keys) ls ≡ list_any (λ c. list_any (λ s. bytes_eq s k) c.keys) (map first_column ls)
any_firsts k [] = refl
any_firsts k (l ∷ ls) = ap (λ (b : Bool). list_any (λ s. bytes_eq s k) l.grouper.keys || b) (any_firsts k ls)

each_map_same : {A B : Type 0} (P : A → Type 0) (f g : A → B) (xs : List A) → ((x : A) → P x → f x ≡ g x) → Each P xs → map f xs ≡ map g xs
each_map_same P f g [] e h = refl
each_map_same {A} {B} P f g (x ∷ xs) e h = ap₂ (λ (a : B) (b : List B). a ∷ b) (e x h.0) (each_map_same P f g xs e h.1)

rises_map : {A : Type 0} (P : ℕ → Type 0) (number : A → ℕ) (f : ℕ → A) (first : ℕ → ℕ) (gs : List ℕ) → ((g : ℕ) → P g → first g ≡ number (f g)) → Each P gs → Rises first gs → Rises number (map f gs)
rises_map P number f first [] e h r = tt
rises_map {A} P number f first (g ∷ gs) e h r = (above gs h.1 r.0, rises_map P number f first gs e h.1 r.1)
  where
    above : (ks : List ℕ) → Each P ks → Each (λ k. first g ≤ first k) ks → Each (λ y. number (f g) ≤ number y) (map f ks)
    above [] p q = tt
    above (k ∷ ks) p q = (let a = e g h.0 in let b = e k p.0 in let c = q.0 in omega arith, above ks p.1 q.1)

-- values of keys, in an order of the keys
ordered_values : (h : List ℕ → Leaf) (ks : List (List ℕ)) (order : List ℕ) → Each (λ g. g < length ks) order → values_at (map h ks) order ≡ map h (keys_at ks order)
ordered_values h ks order small = each_map_same (λ g. g < length ks) (value_at (map h ks)) (λ g. h (key_at ks g)) order (λ g l. get_or-map h ks g [] leaves.Null l) small ∙ sym (map-map h (key_at ks) order)

module _ {R : Type 0} (shape : R → Shape) (holds : R → List State → Type 0) (of : Grouping) where
  -- the ordered groups of a local state into which all were merged
  pub merged_groups : (locals : List (LocalState R)) (l : LocalState R) (g : Groups) → MergesAll shape holds of locals l → AreOrderedGroups shape holds l g → AreMergedGroups holds of locals g
  merged_groups locals l g so ordered = record {
    schema_is = ap (λ (k : KeyGroups). k.schema) ordered.grouper_is ∙ so.is_of.schema_is;
    once = subst (λ (k : KeyGroups). IsPermutation (range_with_len 0 (length k.keys)) g.order) (sym ordered.grouper_is) whole;
    inside = subst (λ (k : KeyGroups). All (λ i. i < length k.keys) g.order) (sym ordered.grouper_is) (All-from_Each (λ i. i < length l.grouper.keys) g.order small);
    keys_are = sorted_keys bytes_eq bytes_eq-Decides top (map first_column locals) l.grouper.keys (ordered_keys g) (subst (NoRepeat bytes_eq) (sym so.keys_are) (distinct_apart bytes_eq bytes_eq-Decides (keys_in locals))) members
        (subst (IsPermutation l.grouper.keys) (sym keys_same) (subst (λ (ks : List (List ℕ)). IsPermutation ks (keys_at l.grouper.keys g.order)) every (IsPermutation-map (key_at l.grouper.keys) (range_with_len 0 (length l.grouper.keys)) g.order whole)))
        (subst (Rises (merged_first locals)) (sym keys_same) (rises_map (λ i. i < length l.grouper.keys) (merged_first locals) (key_at l.grouper.keys) (λ i. get_or l.first_rows i 0) g.order first_at small ordered.order_is.rises));
    columns_are = pairs_via Before (λ r a c. FinishedColumn shape holds g.order a c) (MergedColumn holds locals (ordered_keys g)) finished 0 of.shapes l.reductions g.columns before ordered.columns;
  }
    where
      keys_same : ordered_keys g ≡ keys_at l.grouper.keys g.order
      keys_same = ap (λ (k : KeyGroups). keys_at k.keys g.order) ordered.grouper_is

      every : map (key_at l.grouper.keys) (range_with_len 0 (length l.grouper.keys)) ≡ l.grouper.keys
      every = read_all l.grouper.keys []

      long : length l.first_rows ≡ length l.grouper.keys
      long = ap length so.firsts_are ∙ length-map l.grouper.keys (merged_first locals)

      whole : IsPermutation (range_with_len 0 (length l.grouper.keys)) g.order
      whole = subst (λ (n : ℕ). IsPermutation (range_with_len 0 n) g.order) long ordered.order_is.whole

      small : Each (λ i. i < length l.grouper.keys) g.order
      small = order_below (length l.grouper.keys) g.order whole

      members : (k : List ℕ) → list_any (λ s. bytes_eq s k) l.grouper.keys ≡ list_any (λ c. list_any (λ s. bytes_eq s k) c.keys) (map first_column locals)
      members k = ap (λ (ks : List (List ℕ)). list_any (λ s. bytes_eq s k) ks) so.keys_are ∙ any_distinct bytes_eq bytes_eq-Decides (keys_in locals) k ∙ any_flat_map (λ s. bytes_eq s k) (λ (l : LocalState R). l.grouper.keys) locals ∙ any_firsts k locals

      first_at : (i : ℕ) → i < length l.grouper.keys → get_or l.first_rows i 0 ≡ merged_first locals (key_at l.grouper.keys i)
      first_at i h = ap (λ (fs : List ℕ). get_or fs i 0) so.firsts_are ∙ get_or-map (merged_first locals) l.grouper.keys i [] 0 h

      Before : ℕ → Shape → R → Type 0
      Before r s a = (shape a ≡ sized (length l.grouper.keys) s) × ((cs : List (Local (List ℕ) State)) → AreColumns holds r locals cs → holds a (map (merged_state s cs) l.grouper.keys))

      before : PairsFrom Before 0 of.shapes l.reductions
      before = pairs_both (λ r s a. shape a ≡ sized (length l.grouper.keys) s) (λ r s a. (cs : List (Local (List ℕ) State)) → AreColumns holds r locals cs → holds a (map (merged_state s cs) l.grouper.keys)) Before (λ r s a p q. (p, q)) 0 of.shapes l.reductions (pairs_alike (sized (length l.grouper.keys)) shape 0 of.shapes l.reductions so.is_of.shapes_are) so.states

      finished : (r : ℕ) (s : Shape) (a : R) (c : Column) → Before r s a → FinishedColumn shape holds g.order a c → MergedColumn holds locals (ordered_keys g) r s c
      finished r s a c p q = record {
        name_is = q.name_is;
        dtype_is = q.dtype_is ∙ ap (λ (t : Shape). reduced_type t.kind t.dtype) p.0;
        long = q.long ∙ sym (length-map g.order (key_at g.grouper.keys));
        values_are = λ cs h. q.values_are (map (merged_state s cs) l.grouper.keys) (p.1 cs h) ∙ ap (λ (vs : List Leaf). values_at vs g.order) (map-map out (merged_state s cs) l.grouper.keys) ∙ ordered_values (λ k. out (merged_state s cs k)) l.grouper.keys g.order small ∙ ap (map (λ k. out (merged_state s cs k))) (sym keys_same);
      }
