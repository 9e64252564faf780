-- The states of a reduction, as values and the states of other groups enter its groups.
use Rattle.std.proofs.Common.{◌≡◌, ◌≢◌, ℕ, ◌+◌, ◌≤◌, eqb, false, List, [], ◌∷◌, ◌++◌, map, fold, length, refl, sym, ap, ◌∙◌, bytes_eq}
use Rattle.std.specs.List.{All}
use Rattle.std.proofs.lemmas.Bool.{eqb-false}
use Rattle.std.proofs.lemmas.List.{map-append}
use mathlib.Core.List.{map-map}
use Rattle.col_core.specs.Values.{value_at}
use Rattle.reduce_model.specs.Folds.{fold_of}
use Rattle.reduce_states.specs.States.{Entry as Contribution, State, IsState, IsInOrder, one, after, out, state_of}
use Rattle.reduce_states.specs.Reductions.{Shape}
use Rattle.reduce_states.specs.Moves.{ones}
use Rattle.reduce_states.proofs.Merged.{after-is, state_of-append, state_of-comm, IsState-start}
use Rattle.reduce_states.proofs.Folded.{out-state_of}
use Rattle.list_laws.specs.Each.{Each}
use Rattle.list_laws.specs.Ascending.{Rises}
use Rattle.list_laws.specs.Distinct.{NoRepeat}
use Rattle.list_laws.proofs.Each.{All-from_Each, Each-map, Each-weaker}
use Rattle.join_laws.specs.Locals.{Entry, entries_from}
use Rattle.join_laws.specs.Steps.{TookKeys}
use Rattle.join_laws.proofs.Groups.{AreApart}
use Rattle.group_locals.specs.Rows.{KeyedRow, entry_key, contribution, values_for, merge_of, column_state}
use Rattle.group_locals.specs.Locals.{taken_values}
use Rattle.group_locals.specs.Columns.{entered_states}
use Rattle.group_locals.proofs.Entered.{column_takes}

-- the states of the values of a morsel, one by one
pub ones_are : (s : Shape) (r m n : ℕ) (rows : List KeyedRow) → ones s.kind s.dtype m (values_for r rows) ≡ map (λ e. one s.kind s.dtype (contribution r e)) (entries_from m n rows)
ones_are s r m n [] = refl
ones_are s r m n (row ∷ rows) = ap (λ (xs : List State). one s.kind s.dtype (record { number = m; value = value_at row.values r }) ∷ xs) (ones_are s r m (n + 1) rows)

one_by_one : (s : Shape) (r : ℕ) (v : State) (es : List (Entry KeyedRow)) → fold (merge_of s) v (map (λ e. one s.kind s.dtype (contribution r e)) es) ≡ after s.kind s.dtype v (map (contribution r) es)
one_by_one s r v [] = refl
one_by_one s r v (e ∷ es) = one_by_one s r (merge_of s v (one s.kind s.dtype (contribution r e))) es

-- the states after what entries give to a reduction entered
pub states_take : (s : Shape) (r : ℕ) (old new : List (List ℕ)) (m n : ℕ) (rows : List KeyedRow) (idxs : List ℕ) (xs : List State) → NoRepeat bytes_eq old → TookKeys bytes_eq (map entry_key (entries_from m n rows)) old new idxs → length xs ≡ length old → Each (IsState s.kind s.dtype) xs → entered_states s (length new) idxs xs (ones s.kind s.dtype m (values_for r rows)) ≡ taken_values (column_state s r) (merge_of s) old xs (entries_from m n rows) new
states_take s r old new m n rows idxs xs apart took long states =
    ap (entered_states s (length new) idxs xs) (ones_are s r m n rows)
    ∙ column_takes (merge_of s) (column_state s r) (λ e. one s.kind s.dtype (contribution r e)) (IsState s.kind s.dtype) (λ v es h. one_by_one s r v es ∙ after-is s.kind s.dtype v (map (contribution r) es) h) (IsState-start s.kind s.dtype) old new (entries_from m n rows) idxs xs apart took long states

-- the state of two lists of entries
pub column_state-append : (s : Shape) (r : ℕ) (xs ys : List (Entry KeyedRow)) → column_state s r (xs ++ ys) ≡ merge_of s (column_state s r xs) (column_state s r ys)
column_state-append s r xs ys = ap (state_of s.kind s.dtype) (map-append (contribution r) xs ys) ∙ state_of-append s.kind s.dtype (map (contribution r) xs) (map (contribution r) ys)

-- entries of different morsels
pub column_state-comm : (s : Shape) (r : ℕ) (xs ys : List (Entry KeyedRow)) → AreApart xs ys → merge_of s (column_state s r xs) (column_state s r ys) ≡ merge_of s (column_state s r ys) (column_state s r xs)
column_state-comm s r xs ys h = state_of-comm s.kind s.dtype (map (contribution r) xs) (map (contribution r) ys) (All-from_Each Differs (map (contribution r) xs) (Each-map Differs (contribution r) xs (Each-weaker (λ x. Each (λ y. eqb x.morsel y.morsel ≡ false) ys) (λ x. Differs (contribution r x)) xs apart h)))
  where
    Differs : Contribution → Type 0
    Differs a = All (λ b. a.number ≢ b.number) (map (contribution r) ys)

    apart : (x : Entry KeyedRow) → Each (λ y. eqb x.morsel y.morsel ≡ false) ys → Differs (contribution r x)
    apart x g = All-from_Each (λ b. x.morsel ≢ b.number) (map (contribution r) ys) (Each-map (λ b. x.morsel ≢ b.number) (contribution r) ys (Each-weaker (λ y. eqb x.morsel y.morsel ≡ false) (λ y. x.morsel ≢ y.morsel) ys (λ y e. eqb-false x.morsel y.morsel e) g))

-- where the numbers of morsels do not fall, the state of entries gives the plain fold of their values
pub column_state-out : (s : Shape) (r : ℕ) (es : List (Entry KeyedRow)) → Rises (λ e. e.morsel) es → out (column_state s r es) ≡ fold_of s.kind s.dtype (values_for r (map (λ e. e.row) es))
column_state-out s r es up = out-state_of s.kind s.dtype (map (contribution r) es) (in_order es up) ∙ ap (fold_of s.kind s.dtype) (map-map (λ (c : Contribution). c.value) (contribution r) es ∙ sym (map-map (λ (row : KeyedRow). value_at row.values r) (λ (e : Entry KeyedRow). e.row) es))
  where
    in_order : (es : List (Entry KeyedRow)) → Rises (λ e. e.morsel) es → IsInOrder (map (contribution r) es)
    in_order [] h = tt
    in_order (e ∷ es) h = (All-from_Each (λ c. e.morsel ≤ c.number) (map (contribution r) es) (Each-map (λ c. e.morsel ≤ c.number) (contribution r) es h.0), in_order es h.1)
