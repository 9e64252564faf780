-- The distinct keys of a list, and a value for each key, as one more row comes.
use Rattle.std.proofs.Common.{◌≡◌, ℕ, zero, suc, ◌+◌, ◌<◌, Bool, true, false, ◌||◌, cond, List, [], ◌∷◌, ◌++◌, map, filter, length, drop, get_or, set, fold, refl, sym, ap, ◌∙◌, subst, inl, inr, arith}
use Rattle.std.specs.Bool.{Decides}
use Rattle.std.specs.List.{list_any, All}
use Rattle.std.proofs.lemmas.Bool.{false≢true, cases_Bool}
use Rattle.std.proofs.lemmas.List.{map-append, drop_more}
use Rattle.std.proofs.lemmas.List.Elements.{filter-append, All-push, All-head, All-tail, All-nil}
use Rattle.std.proofs.lemmas.List.Sums.{fold_push}
use Rattle.list_laws.specs.Distinct.{with_new, has_repeat, NoRepeat}
use Rattle.list_laws.proofs.Halves.{neither}

-- an item with those after it
pub has_repeat-drop : {K : Type 0} (E : K → K → Bool) (xs : List K) (i : ℕ) (x : K) → i < length xs → x ≡ get_or xs i x → has_repeat E (drop i xs) ≡ (list_any (λ y. E y x) (drop (i + 1) xs) || has_repeat E (drop (i + 1) xs))
has_repeat-drop E xs i x h e = ap (has_repeat E) (drop_more xs i x h) ∙ ap (λ y. list_any (λ z. E z y) (drop (i + 1) xs) || has_repeat E (drop (i + 1) xs)) (sym e)

module _ {K : Type 0} (E : K → K → Bool) (dec : (a b : K) → Decides (E a b) (a ≡ b)) where
  E_sym : (a b : K) → E a b ≡ false → E b a ≡ false
  E_sym a b h = elim (E b a) as (λ v. E b a ≡ v → v ≡ false) [
    | true ↦ λ e. absurd (false≢true (sym h ∙ (dec a b).1 (sym ((dec b a).0 e))))
    | false ↦ λ e. refl
  ] refl

  -- a new key at the end
  pub no_repeat_push : (xs : List K) (k : K) → NoRepeat E xs → list_any (λ s. E s k) xs ≡ false → NoRepeat E (xs ++ k ∷ [])
  no_repeat_push [] k n h = (refl, tt)
  no_repeat_push (x ∷ xs) k n h =
      let both = neither (E x k) (list_any (λ s. E s k) xs) h in
      (apart xs n.0, no_repeat_push xs k n.1 both.1)
    where
      apart : (ys : List K) → list_any (λ s. E s x) ys ≡ false → list_any (λ s. E s x) (ys ++ k ∷ []) ≡ false
      apart [] g = ap (λ (b : Bool). b || false) (E_sym x k (neither (E x k) (list_any (λ s. E s k) xs) h).0)
      apart (y ∷ ys) g =
          let both = neither (E y x) (list_any (λ s. E s x) ys) g in
          rw both.0 (apart ys both.1)

  -- what is among no keys differs from each
  pub differs_at : (xs : List K) (k : K) (i : ℕ) (d : K) → list_any (λ s. E s k) xs ≡ false → i < length xs → E (get_or xs i d) k ≡ false
  differs_at [] k i d h l = absurd (omega arith)
  differs_at (x ∷ xs) k zero d h l = (neither (E x k) (list_any (λ s. E s k) xs) h).0
  differs_at (x ∷ xs) k (suc i) d h l = differs_at xs k i d (neither (E x k) (list_any (λ s. E s k) xs) h).1 (omega arith)

  -- where only the value of one key changes, only its place does
  pub one_changed : {V : Type 0} (f g : K → V) (k : K) → ((s : K) → E s k ≡ false → g s ≡ f s) → (xs : List K) (i : ℕ) (d : K) → NoRepeat E xs → i < length xs → E (get_or xs i d) k ≡ true → map g xs ≡ set (map f xs) i (g k)
  one_changed f g k same [] i d n l h = absurd (omega arith)
  one_changed {V} f g k same (x ∷ xs) zero d n l h =
      let here : x ≡ k = (dec x k).0 h in
      cc (rest xs (subst (λ (y : K). list_any (λ s. E s y) xs ≡ false) here n.0), ap g here)
    where
      rest : (ys : List K) → list_any (λ s. E s k) ys ≡ false → map g ys ≡ map f ys
      rest [] q = refl
      rest (y ∷ ys) q =
          let both = neither (E y k) (list_any (λ s. E s k) ys) q in
          cc (same y both.0, rest ys both.1)
  one_changed f g k same (x ∷ xs) (suc i) d n l h =
      let apart : E x k ≡ false = E_sym k x (rw (← (dec (get_or xs i d) k).0 h) (differs_at xs x i d n.0 (omega arith))) in
      cc (same x apart, one_changed f g k same xs i d n.1 (omega arith) h)

  -- a key is among a list with one more exactly where it was, or is that one
  any_with_new : (seen : List K) (x k : K) → list_any (λ s. E s k) (with_new E seen x) ≡ (list_any (λ s. E s k) seen || E x k)
  any_with_new seen x k = elim (cases_Bool (list_any (λ s. E s x) seen)) [
    | inl old ↦ rw old (elim (cases_Bool (E x k)) [
      | inl same ↦ rw same (
          let here : x ≡ k = (dec x k).0 same in
          let was : list_any (λ s. E s k) seen ≡ true = subst (λ (y : K). list_any (λ s. E s y) seen ≡ true) here old in
          cc (was, ap (λ (b : Bool). b || true) was))
      | inr differs ↦ rw differs (sym (or_none (list_any (λ s. E s k) seen)))
    ])
    | inr fresh ↦ rw fresh (any_push seen)
  ]
    where
      or_none : (b : Bool) → (b || false) ≡ b
      or_none true = refl
      or_none false = refl

      or_assoc : (a b c : Bool) → (a || (b || c)) ≡ ((a || b) || c)
      or_assoc true b c = refl
      or_assoc false b c = refl

      any_push : (ys : List K) → list_any (λ s. E s k) (ys ++ x ∷ []) ≡ (list_any (λ s. E s k) ys || E x k)
      any_push [] = or_none (E x k)
      any_push (y ∷ ys) = ap (λ (b : Bool). E y k || b) (any_push ys) ∙ or_assoc (E y k) (list_any (λ s. E s k) ys) (E x k)

  -- a key is among the distinct ones exactly where it is among all
  any_distinct_from : (seen ks : List K) (k : K) → list_any (λ s. E s k) (fold (with_new E) seen ks) ≡ (list_any (λ s. E s k) seen || list_any (λ s. E s k) ks)
  any_distinct_from seen [] k = sym (none (list_any (λ s. E s k) seen))
    where
      none : (b : Bool) → (b || false) ≡ b
      none true = refl
      none false = refl
  any_distinct_from seen (x ∷ ks) k = any_distinct_from (with_new E seen x) ks k ∙ ap (λ (b : Bool). b || list_any (λ s. E s k) ks) (any_with_new seen x k) ∙ regroup (list_any (λ s. E s k) seen) (E x k) (list_any (λ s. E s k) ks)
    where
      regroup : (a b c : Bool) → ((a || b) || c) ≡ (a || (b || c))
      regroup true b c = refl
      regroup false b c = refl

  pub any_distinct : (ks : List K) (k : K) → list_any (λ s. E s k) (fold (with_new E) [] ks) ≡ list_any (λ s. E s k) ks
  any_distinct ks k = any_distinct_from [] ks k

  -- a key that is there changes no distinct keys
  pub distinct_old : (ks : List K) (k : K) → list_any (λ s. E s k) (fold (with_new E) [] ks) ≡ true → fold (with_new E) [] (ks ++ k ∷ []) ≡ fold (with_new E) [] ks
  distinct_old ks k h = fold_push (with_new E) [] ks k ∙ ap (λ (b : Bool). cond b (fold (with_new E) [] ks) (fold (with_new E) [] ks ++ k ∷ [])) h

  -- a key that is new goes to the end
  pub distinct_new : (ks : List K) (k : K) → list_any (λ s. E s k) (fold (with_new E) [] ks) ≡ false → fold (with_new E) [] (ks ++ k ∷ []) ≡ fold (with_new E) [] ks ++ k ∷ []
  distinct_new ks k h = fold_push (with_new E) [] ks k ∙ ap (λ (b : Bool). cond b (fold (with_new E) [] ks) (fold (with_new E) [] ks ++ k ∷ [])) h

  -- what stands at a place is among the list
  pub any_at : (xs : List K) (k : K) (i : ℕ) (d : K) → i < length xs → E (get_or xs i d) k ≡ true → list_any (λ s. E s k) xs ≡ true
  any_at [] k i d l h = absurd (omega arith)
  any_at (x ∷ xs) k zero d l h = ap (λ (b : Bool). b || list_any (λ s. E s k) xs) h
  any_at (x ∷ xs) k (suc i) d l h = ap (λ (b : Bool). E x k || b) (any_at xs k i d (omega arith) h) ∙ or_true (E x k)
    where
      or_true : (b : Bool) → (b || true) ≡ true
      or_true true = refl
      or_true false = refl

  -- what holds of all keys holds of the distinct ones
  all_from : (Q : K → Type 0) (seen ks : List K) → All Q seen → All Q ks → All Q (fold (with_new E) seen ks)
  all_from Q seen [] hs hk = hs
  all_from Q seen (x ∷ ks) hs hk = all_from Q (with_new E seen x) ks (elim (cases_Bool (list_any (λ s. E s x) seen)) [
    | inl old ↦ rw old hs
    | inr fresh ↦ rw fresh (All-push Q seen x hs (All-head Q x ks hk))
  ]) (All-tail Q x ks hk)

  pub all_distinct : (Q : K → Type 0) (ks : List K) → All Q ks → All Q (fold (with_new E) [] ks)
  all_distinct Q ks h = all_from Q [] ks (All-nil Q) h

  -- the fold of each key's rows
  module _ {R A : Type 0} (key : R → K) (step : A → R → A) (start : A) where
    abbrev pub total_for : List R → K → A
    total_for rows k = fold step start (filter (λ r. E (key r) k) rows)

    keys_of : List R → List K
    keys_of rows = map key rows

    -- one more row of another key
    pub total_other : (rows : List R) (r : R) (k : K) → E (key r) k ≡ false → total_for (rows ++ r ∷ []) k ≡ total_for rows k
    total_other rows r k h = ap (fold step start) (filter-append (λ r. E (key r) k) rows (r ∷ [])) ∙ rw h (ap (fold step start) (append_none (filter (λ r. E (key r) k) rows)))
      where
        append_none : (xs : List R) → xs ++ [] ≡ xs
        append_none [] = refl
        append_none (x ∷ xs) = ap (λ t. x ∷ t) (append_none xs)

    -- one more row of the key
    pub total_same : (rows : List R) (r : R) (k : K) → E (key r) k ≡ true → total_for (rows ++ r ∷ []) k ≡ step (total_for rows k) r
    total_same rows r k h = ap (fold step start) (filter-append (λ r. E (key r) k) rows (r ∷ [])) ∙ rw h (fold_push step start (filter (λ r. E (key r) k) rows) r)

    -- a key of no row
    pub total_none : (rows : List R) (k : K) → list_any (λ s. E s k) (map key rows) ≡ false → total_for rows k ≡ start
    total_none rows k h = ap (fold step start) (none rows h)
      where
        none : (rows : List R) → list_any (λ s. E s k) (map key rows) ≡ false → filter (λ r. E (key r) k) rows ≡ []
        none [] h = refl
        none (x ∷ xs) h =
            let both = neither (E (key x) k) (list_any (λ s. E s k) (map key xs)) h in
            rw both.0 (none xs both.1)

    -- a row whose key is at place g
    pub totals_old : (rows : List R) (r : R) (ds : List K) (g : ℕ) (d : K) → NoRepeat E ds → g < length ds → E (get_or ds g d) (key r) ≡ true → map (total_for (rows ++ r ∷ [])) ds ≡ set (map (total_for rows) ds) g (step (total_for rows (key r)) r)
    totals_old rows r ds g d n l h =
        one_changed (total_for rows) (total_for (rows ++ r ∷ [])) (key r) (λ s q. total_other rows r s (E_sym s (key r) q)) ds g d n l h
        ∙ ap (set (map (total_for rows) ds) g) (total_same rows r (key r) ((dec (key r) (key r)).1 refl))

    -- a row whose key is new
    pub totals_new : (rows : List R) (r : R) (ds : List K) → list_any (λ s. E s (key r)) ds ≡ false → list_any (λ s. E s (key r)) (map key rows) ≡ false → map (total_for (rows ++ r ∷ [])) (ds ++ key r ∷ []) ≡ map (total_for rows) ds ++ step start r ∷ []
    totals_new rows r ds h g =
        map-append (total_for (rows ++ r ∷ [])) ds (key r ∷ [])
        ∙ ap (λ (xs : List A). xs ++ total_for (rows ++ r ∷ []) (key r) ∷ []) (others ds h)
        ∙ ap (λ (a : A). map (total_for rows) ds ++ a ∷ []) (total_same rows r (key r) ((dec (key r) (key r)).1 refl) ∙ ap (λ (a : A). step a r) (total_none rows (key r) g))
      where
        others : (ys : List K) → list_any (λ s. E s (key r)) ys ≡ false → map (total_for (rows ++ r ∷ [])) ys ≡ map (total_for rows) ys
        others [] q = refl
        others (y ∷ ys) q =
            let both = neither (E y (key r)) (list_any (λ s. E s (key r)) ys) q in
            cc (total_other rows r y (E_sym y (key r) both.0), others ys both.1)
