-- Local states of a query keep the history of the morsels that they took.
use Rattle.std.proofs.Common.{◌≡◌, ◌≢◌, ℕ, zero, suc, ◌+◌, ◌<◌, ◌≤◌, ◌%◌, List, [], ◌∷◌, ◌++◌, map, flat_map, length, get_or, refl, sym, ap, ap₂, ◌∙◌, subst, arith}
use Rattle.std.specs.List.{range_with_len}
use Rattle.std.proofs.lemmas.List.{length-append, length-map, map-append, take_all, get_or-append-add, get_or_append_left}
use Rattle.col_core.specs.Tables.{Row}
use Rattle.reduce_states.specs.States.{State}
use Rattle.reduce_states.specs.Reductions.{Shape}
use Rattle.list_laws.specs.Each.{Each}
use Rattle.list_laws.specs.Places.{ChangedAt, EachFrom}
use Rattle.list_laws.proofs.Each.{Each-append}
use Rattle.list_laws.proofs.Lists.{range_upto}
use Rattle.list_laws.proofs.Ranges.{Each-range}
use Rattle.join_laws.specs.Locals.{Entry, block, entries_from, first_row, rows_of_morsels}
use Rattle.join_query.specs.declared.query.Query.{Query}
use Rattle.group_locals.specs.declared.local.LocalState.{LocalState}
use Rattle.group_locals.specs.Locals.{AreFresh, LocalTakes, LocalsFit, kept}
use Rattle.group_locals.specs.History.{LocalHolds, LocalsHold, taken_by}
use Rattle.group_locals.specs.Rows.{KeyedRow}
use Rattle.group_locals.proofs.History.{locals_hold, locals_none}
use Rattle.group_locals.proofs.Fresh.{locals_fresh}
use Rattle.group_locals.proofs.Ranges.{range_other}
use Rattle.join_groups.specs.Keyed.{HasGroup, grouping_of_query, keyed_row}
use Rattle.join_groups.specs.History.{HaveTaken, keyed_morsels}
use Rattle.join_groups.proofs.KeyedMorsels.{before, block_is, blocks_before, first_at, morsel_at}

length-changed_at : {X : Type 0} (P : X → X → Type 0) (i : ℕ) (xs ys : List X) → ChangedAt P i xs ys → length ys ≡ length xs
length-changed_at P i [] ys h = absurd h
length-changed_at P i (x ∷ xs) [] h = absurd h
length-changed_at P zero (x ∷ xs) (y ∷ ys) h = ap suc (ap length h.1)
length-changed_at P (suc i) (x ∷ xs) (y ∷ ys) h = ap suc (length-changed_at P i xs ys h.1)

each_from_same : {X E : Type 0} (P : E → X → Type 0) (f g : ℕ → E) → ((s : ℕ) → f s ≡ g s) → (n : ℕ) (xs : List X) → EachFrom (λ s x. P (f s) x) n xs → EachFrom (λ s x. P (g s) x) n xs
each_from_same P f g e n [] h = tt
each_from_same P f g e n (x ∷ xs) h = (subst (λ v. P v x) (e n) h.0, each_from_same P f g e (n + 1) xs h.1)

each_both : {X : Type 0} (P Q S : X → Type 0) → ((x : X) → P x → Q x → S x) → (xs : List X) → Each P xs → Each Q xs → Each S xs
each_both P Q S f [] hp hq = tt
each_both P Q S f (x ∷ xs) hp hq = (f x hp.0 hq.0, each_both P Q S f xs hp.1 hq.1)

module _ {R : Type 0} (shape : R → Shape) (holds : R → List State → Type 0) (q : Query) where
  -- new local states have taken nothing
  pub none_taken : (ms : List (List Row)) (locals : List (LocalState R)) → length locals ≡ q.plan.states → LocalsFit shape (grouping_of_query q) locals → Each (LocalHolds holds (grouping_of_query q) []) locals → HaveTaken shape holds q ms [] locals
  none_taken ms locals count fit new = record { count = count; fit = fit; hold = locals_none shape holds (grouping_of_query q) (keyed_morsels q ms) q.plan.states locals new; spelled = tt }

  module _ (ms : List (List Row)) (order : List ℕ) (olds : List (LocalState R)) (have : HaveTaken shape holds q ms order olds) where
    -- the row numbers of a morsel that they have not taken are fresh
    pub morsel_fresh : (i : ℕ) → Each (λ j. j ≢ i) order → AreFresh (first_row ms i) (length (get_or ms i [])) (flat_map kept olds)
    morsel_fresh i other =
        subst (λ (n : ℕ). AreFresh n (length (get_or ms i [])) (flat_map kept olds)) (first_at q ms i)
        (subst (λ (n : ℕ). AreFresh (first_row (keyed_morsels q ms) i) n (flat_map kept olds)) (ap length (morsel_at q ms i) ∙ length-map (get_or ms i []) (keyed_row q))
        (locals_fresh shape holds (grouping_of_query q) (keyed_morsels q ms) q.plan.states order i other olds have.fit.each have.hold))

    -- one more morsel was taken
    pub taken_more : (i : ℕ) (news : List (LocalState R)) → ChangedAt (LocalTakes shape holds (entries_from i (first_row ms i) (map (keyed_row q) (get_or ms i [])))) (i % length olds) olds news → LocalsFit shape (grouping_of_query q) news → Each (HasGroup q) (get_or ms i []) → HaveTaken shape holds q ms (order ++ i ∷ []) news
    taken_more i news changed fit spelled = record {
      count = length-changed_at (LocalTakes shape holds (entries_from i (first_row ms i) (map (keyed_row q) (get_or ms i [])))) (i % length olds) olds news changed ∙ have.count;
      fit = fit;
      hold = locals_hold shape holds (grouping_of_query q) (keyed_morsels q ms) q.plan.states order i olds news have.fit.each have.hold
          (subst (λ (n : ℕ). ChangedAt (LocalTakes shape holds (block (keyed_morsels q ms) i)) (i % n) olds news) have.count
          (subst (λ (es : List (Entry KeyedRow)). ChangedAt (LocalTakes shape holds es) (i % length olds) olds news) (sym (block_is q ms i)) changed));
      spelled = Each-append (λ i. Each (HasGroup q) (get_or ms i [])) order (i ∷ []) have.spelled (spelled, tt);
    }

  -- morsels that come one after the other
  module _ (ms : List (List Row)) (m : List Row) (olds : List (LocalState R)) (have : HaveTaken shape holds q ms (range_with_len 0 (length ms)) olds) where
    last : get_or (ms ++ m ∷ []) (length ms) [] ≡ m
    last = ap (λ (n : ℕ). get_or (ms ++ m ∷ []) n []) (omega arith) ∙ get_or-append-add ms (m ∷ []) 0 []

    rows_before : first_row (ms ++ m ∷ []) (length ms) ≡ length (rows_of_morsels ms)
    rows_before = before ms m (length ms) (omega arith) ∙ ap (λ (xs : List (List Row)). length (rows_of_morsels xs)) (take_all (length ms) ms (omega arith))

    same : (s : ℕ) → taken_by (keyed_morsels q ms) q.plan.states (range_with_len 0 (length ms)) s ≡ taken_by (keyed_morsels q (ms ++ m ∷ [])) q.plan.states (range_with_len 0 (length ms)) s
    same s =
        let long : length ms ≤ length (keyed_morsels q ms) = let e = length-map ms (map (keyed_row q)) in omega arith in
        sym (ap (λ (xs : List (List KeyedRow)). taken_by xs q.plan.states (range_with_len 0 (length ms)) s) (map-append (map (keyed_row q)) ms (m ∷ [])) ∙ blocks_before (keyed_morsels q ms) (map (keyed_row q) m) q.plan.states s (length ms) long)

    with_next : HaveTaken shape holds q (ms ++ m ∷ []) (range_with_len 0 (length ms)) olds
    with_next = record {
      count = have.count;
      fit = have.fit;
      hold = each_from_same (LocalHolds holds (grouping_of_query q)) (taken_by (keyed_morsels q ms) q.plan.states (range_with_len 0 (length ms))) (taken_by (keyed_morsels q (ms ++ m ∷ [])) q.plan.states (range_with_len 0 (length ms))) same 0 olds have.hold;
      spelled = each_both (λ i. Each (HasGroup q) (get_or ms i [])) (λ i. get_or (ms ++ m ∷ []) i [] ≡ get_or ms i []) (λ i. Each (HasGroup q) (get_or (ms ++ m ∷ []) i [])) (λ i h e. subst (Each (HasGroup q)) (sym e) h) (range_with_len 0 (length ms)) have.spelled (Each-range (λ i. get_or (ms ++ m ∷ []) i [] ≡ get_or ms i []) 0 (length ms) (λ i a b. get_or_append_left ms (m ∷ []) [] i (omega arith)));
    }

    -- the row numbers of the next morsel are fresh
    pub next_fresh : AreFresh (length (rows_of_morsels ms)) (length m) (flat_map kept olds)
    next_fresh =
        subst (λ (n : ℕ). AreFresh n (length m) (flat_map kept olds)) rows_before
        (subst (λ (rows : List Row). AreFresh (first_row (ms ++ m ∷ []) (length ms)) (length rows) (flat_map kept olds)) last
        (morsel_fresh (ms ++ m ∷ []) (range_with_len 0 (length ms)) olds with_next (length ms) (range_other (length ms))))

    -- the next morsel was taken
    pub taken_next : (news : List (LocalState R)) → ChangedAt (LocalTakes shape holds (entries_from (length ms) (length (rows_of_morsels ms)) (map (keyed_row q) m))) (length ms % length olds) olds news → LocalsFit shape (grouping_of_query q) news → Each (HasGroup q) m → HaveTaken shape holds q (ms ++ m ∷ []) (range_with_len 0 (length (ms ++ m ∷ []))) news
    taken_next news changed fit spelled =
        subst (λ (order : List ℕ). HaveTaken shape holds q (ms ++ m ∷ []) order news) (sym (range_upto (length ms)) ∙ ap (range_with_len 0) (sym (length-append ms (m ∷ []))))
        (taken_more (ms ++ m ∷ []) (range_with_len 0 (length ms)) olds with_next (length ms) news
        (subst (λ (es : List (Entry KeyedRow)). ChangedAt (LocalTakes shape holds es) (length ms % length olds) olds news) (sym (ap₂ (λ (n : ℕ) (rows : List Row). entries_from (length ms) n (map (keyed_row q) rows)) rows_before last)) changed)
        fit (subst (Each (HasGroup q)) (sym last) spelled))
