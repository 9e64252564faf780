-- Morsels that reach local states in a whole order.
use Rattle.std.proofs.Common.{◌≡◌, ◌≢◌, ℕ, ◌+◌, ◌<◌, ◌≤◌, ◌%◌, eqb, true, cond, List, [], ◌∷◌, ◌++◌, map, flat_map, length, get_or, take, drop, refl, sym, ap, ap₂, ◌∙◌, subst, inl, inr, append-nil, arith}
use Rattle.std.specs.List.{All, range_with_len, count_by}
use Rattle.std.proofs.lemmas.Bool.{cases_Bool, eqb-false, eq-eqb}
use Rattle.std.proofs.lemmas.List.{get_or-map, length-append, length-map, map-append, take_more, take-append-drop}
use Rattle.std.proofs.lemmas.List.Concat.{flat_map-append}
use Rattle.std.proofs.lemmas.List.Folds.{flat_map-map}
use Rattle.std.proofs.lemmas.List.FromFn.{get_or-map-range_with_len, length-map-range_with_len}
use Rattle.std.proofs.lemmas.List.Sums.{sum_by-append, sum_by-cons}
use Rattle.col_core.specs.Tables.{Row, Table}
use Rattle.reduce_states.specs.States.{State}
use Rattle.reduce_states.specs.Reductions.{Shape}
use Rattle.list_laws.specs.Each.{Each}
use Rattle.list_laws.specs.Orders.{IsWhole}
use Rattle.list_laws.specs.Places.{ChangedAt}
use Rattle.list_laws.proofs.Each.{All-from_Each, Each-all, Each-from_All}
use Rattle.list_laws.proofs.Lists.{flat_map_front, flat_map_more, range_upto, take_map}
use Rattle.list_laws.proofs.Maps.{read_all}
use Rattle.list_laws.proofs.Orders.{in_order}
use Rattle.join_laws.specs.Locals.{Entry, entries_from, first_row, rows_of_morsels}
use Rattle.join_query.specs.declared.query.Plan.{Plan}
use Rattle.join_query.specs.declared.query.Query.{Query}
use Rattle.join_model.specs.Joined.{rows_of}
use Rattle.join_model.specs.Refusals.{is_good_plan}
use Rattle.group_locals.specs.declared.local.LocalState.{LocalState}
use Rattle.group_locals.specs.Rows.{KeyedRow}
use Rattle.group_locals.specs.Locals.{AreFresh, LocalTakes, LocalsFit, kept}
use Rattle.join_groups.specs.Keyed.{HasGroup, grouping_of_query, keyed_row}
use Rattle.join_groups.specs.History.{HaveTaken, rows_in, morsel_rows}
use Rattle.join_groups.proofs.Taken.{morsel_fresh, taken_more}

-- a good plan has local states
pub some_states : (plan : Plan) → is_good_plan plan ≡ true → 0 < plan.states
some_states plan h = grind arith

-- the rows of all morsels
pub rows_are : (morsels : List Table) → rows_of_morsels (morsel_rows morsels) ≡ rows_of morsels
rows_are morsels = flat_map-map (λ (rows : List Row). rows) (λ (m : Table). m.rows) morsels

-- the rows before a morsel, and those up to its end
first_is : (morsels : List Table) (i : ℕ) → first_row (morsel_rows morsels) i ≡ length (rows_of (take i morsels))
first_is morsels i = ap (λ (ms : List (List Row)). length (rows_of_morsels ms)) (take_map (λ (m : Table). m.rows) i morsels) ∙ ap length (rows_are (take i morsels))

module _ (morsels : List Table) (i : ℕ) (m : Table) (e : m ≡ get_or morsels i m) (l : i < length morsels) where
  pub first_next : first_row (morsel_rows morsels) (i + 1) ≡ first_row (morsel_rows morsels) i + length m.rows
  first_next =
      let a = first_is morsels (i + 1) in
      let b = ap length (flat_map_more (λ (m : Table). m.rows) morsels i m e l) in
      let c = length-append (rows_of (take i morsels)) m.rows in
      let d = first_is morsels i in
      omega arith

  pub rows_room : first_row (morsel_rows morsels) i + length m.rows ≤ length (rows_of morsels)
  rows_room =
      let a = first_next in
      let b = first_is morsels (i + 1) in
      let c = flat_map_front (λ (m : Table). m.rows) morsels (i + 1) in
      omega arith

  -- one more first row
  pub firsts_more : (firsts : List ℕ) (first : ℕ) → first ≡ first_row (morsel_rows morsels) i → firsts ≡ map (first_row (morsel_rows morsels)) (range_with_len 0 i) → firsts ++ first ∷ [] ≡ map (first_row (morsel_rows morsels)) (range_with_len 0 (i + 1))
  firsts_more firsts first f h =
      ap₂ (λ (xs : List ℕ) (x : ℕ). xs ++ x ∷ []) h f
      ∙ sym (ap (map (first_row (morsel_rows morsels))) (range_upto i) ∙ map-append (first_row (morsel_rows morsels)) (range_with_len 0 i) (i ∷ []))

  rows_same : m.rows ≡ get_or (morsel_rows morsels) i []
  rows_same = ap (λ (t : Table). t.rows) e ∙ sym (get_or-map (λ (t : Table). t.rows) morsels i m [] l)

-- where a morsel's rows begin
module _ (morsels : List Table) (firsts : List ℕ) (same : firsts ≡ map (first_row (morsel_rows morsels)) (range_with_len 0 (length morsels))) (i : ℕ) (l : i < length morsels) where
  pub first_inside : i < length firsts
  first_inside = let n = ap length same ∙ length-map-range_with_len (first_row (morsel_rows morsels)) 0 (length morsels) in omega arith

  pub first_of : get_or firsts i 0 ≡ first_row (morsel_rows morsels) i
  first_of = ap (λ (xs : List ℕ). get_or xs i 0) same ∙ get_or-map-range_with_len (first_row (morsel_rows morsels)) 0 (length morsels) i i 0 l (omega arith)

-- a number that does not stand in a list differs from each of it
none_same : (xs : List ℕ) (k : ℕ) → count_by (λ x. eqb x k) xs ≡ 0 → Each (λ x. x ≢ k) xs
none_same [] k h = tt
none_same (x ∷ xs) k h = elim (cases_Bool (eqb x k)) [
  | inl same ↦ absurd (let more : count_by (λ x. eqb x k) (x ∷ xs) ≡ 1 + count_by (λ x. eqb x k) xs = sum_by-cons (λ x. cond (eqb x k) 1 0) x xs ∙ rw same refl in omega arith)
  | inr apart ↦
      let fewer : count_by (λ x. eqb x k) (x ∷ xs) ≡ count_by (λ x. eqb x k) xs = sum_by-cons (λ x. cond (eqb x k) 1 0) x xs ∙ rw apart (omega arith) in
      (eqb-false x k apart, none_same xs k (sym fewer ∙ h))
]

-- the numbers of a whole order
module _ (count : ℕ) (order : List ℕ) (whole : IsWhole count order) (j : ℕ) (l : j < length order) where
  pub number_inside : get_or order j 0 < count
  number_inside = All-from_Each (λ (x : ℕ). x < count) order whole.below j 0 l

  -- a number does not stand before its place
  pub number_other : Each (λ x. x ≢ get_or order j 0) (take j order)
  number_other =
      let k = get_or order j 0 in
      let w : ℕ → ℕ = λ x. cond (eqb x k) 1 0 in
      let here : count_by (λ x. eqb x k) (k ∷ []) ≡ 1 = at_itself k (eq-eqb k k refl) in
      let a : count_by (λ x. eqb x k) ((take j order ++ k ∷ []) ++ drop (j + 1) order) ≡ 1 = ap (λ (xs : List ℕ). count_by (λ x. eqb x k) (xs ++ drop (j + 1) order)) (sym (take_more order j 0 l)) ∙ ap (count_by (λ x. eqb x k)) (take-append-drop (j + 1) order) ∙ whole.once k number_inside in
      let b = sum_by-append w (take j order ++ k ∷ []) (drop (j + 1) order) in
      let c = sum_by-append w (take j order) (k ∷ []) in
      none_same (take j order) k (omega arith)
    where
      at_itself : (k : ℕ) → eqb k k ≡ true → count_by (λ x. eqb x k) (k ∷ []) ≡ 1
      at_itself k h = sum_by-cons (λ x. cond (eqb x k) 1 0) k [] ∙ rw h refl

-- the rows of a whole order are as many as all
module _ (morsels : List Table) (order : List ℕ) (whole : IsWhole (length morsels) order) where
  abbrev rows : List (List Row)
  rows = morsel_rows morsels

  pub whole_rows : IsWhole (length rows) order
  whole_rows = subst (λ (n : ℕ). IsWhole n order) (sym (length-map morsels (λ (m : Table). m.rows))) whole

  pub rows_long : length (rows_in rows order) ≡ length (rows_of morsels)
  rows_long =
      in_order (λ i. get_or rows i []) (λ (row : Row). Unit {0}) (λ i. Each-all (λ (row : Row). Unit {0}) (get_or rows i []) (λ row. tt)) (λ (xs : List Row). length xs) (λ a b. a + b) (λ xs ys gx gy. length-append xs ys) (λ i k ne. swap (get_or rows i []) (get_or rows k [])) (length rows) order whole_rows
      ∙ ap length (sym (flat_map-map (λ (xs : List Row). xs) (λ i. get_or rows i []) (range_with_len 0 (length rows))) ∙ ap rows_of_morsels (read_all rows []) ∙ rows_are morsels)
    where
      swap : (xs ys : List Row) → length (xs ++ ys) ≡ length (ys ++ xs)
      swap xs ys = let a = length-append xs ys in let b = length-append ys xs in omega arith

  -- those so far, and those with one more
  pub rows_most : (j : ℕ) → length (rows_in rows (take j order)) ≤ length (rows_of morsels)
  rows_most j = let a = flat_map_front (λ i. get_or rows i []) order j in let b = rows_long in omega arith

  module _ (j : ℕ) (l : j < length order) (m : Table) (e : m ≡ get_or morsels (get_or order j 0) m) where
    inside : get_or order j 0 < length morsels
    inside = number_inside (length morsels) order whole j l

    pub rows_more : length (rows_in rows (take (j + 1) order)) ≡ length (rows_in rows (take j order)) + length m.rows
    rows_more =
        ap (rows_count) (take_more order j 0 l)
        ∙ ap length (flat_map-append (λ i. get_or rows i []) (take j order) (get_or order j 0 ∷ []))
        ∙ length-append (rows_in rows (take j order)) (get_or rows (get_or order j 0) [] ++ [])
        ∙ ap (λ (n : ℕ). length (rows_in rows (take j order)) + n) (ap length (append-nil (get_or rows (get_or order j 0) []) ∙ sym (rows_same morsels (get_or order j 0) m e inside)))
      where
        rows_count : List ℕ → ℕ
        rows_count js = length (rows_in rows js)

    module _ {R : Type 0} (shape : R → Shape) (holds : R → List State → Type 0) (q : Query) (first : ℕ) (at : first ≡ first_row rows (get_or order j 0)) (olds : List (LocalState R)) (have : HaveTaken shape holds q rows (take j order) olds) where
      -- the numbers of its rows are fresh
      pub order_fresh : AreFresh first (length m.rows) (flat_map kept olds)
      order_fresh =
          subst (λ (n : ℕ). AreFresh n (length m.rows) (flat_map kept olds)) (sym at)
          (subst (λ (xs : List Row). AreFresh (first_row rows (get_or order j 0)) (length xs) (flat_map kept olds)) (sym (rows_same morsels (get_or order j 0) m e inside))
          (morsel_fresh shape holds q rows (take j order) olds have (get_or order j 0) (number_other (length morsels) order whole j l)))

      -- and it is taken
      pub order_taken : (news : List (LocalState R)) → ChangedAt (LocalTakes shape holds (entries_from (get_or order j 0) first (map (keyed_row q) m.rows))) (get_or order j 0 % length olds) olds news → LocalsFit shape (grouping_of_query q) news → All (HasGroup q) m.rows → HaveTaken shape holds q rows (take (j + 1) order) news
      order_taken news changed fit spelled =
          subst (λ (js : List ℕ). HaveTaken shape holds q rows js news) (sym (take_more order j 0 l))
          (taken_more shape holds q rows (take j order) olds have (get_or order j 0) news
          (subst (λ (es : List (Entry KeyedRow)). ChangedAt (LocalTakes shape holds es) (get_or order j 0 % length olds) olds news) (ap₂ (λ (n : ℕ) (xs : List Row). entries_from (get_or order j 0) n (map (keyed_row q) xs)) at (rows_same morsels (get_or order j 0) m e inside)) changed)
          fit (subst (Each (HasGroup q)) (rows_same morsels (get_or order j 0) m e inside) (Each-from_All (HasGroup q) m.rows spelled)))
