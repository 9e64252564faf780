-- From what the calls leave to what the local states hold.
use Rattle.std.proofs.Common.{◌≡◌, ℕ, zero, suc, ◌+◌, ◌-◌, ◌<◌, ◌≤◌, eqb, min, Bool, true, false, ◌||◌, cond, List, [], ◌∷◌, ◌++◌, map, filter, fold, length, get_or, replicate, zip, refl, sym, ap, ap₂, ◌∙◌, subst, inl, inr, append-nil, append_assoc, arith, IsPermutation}
use Rattle.std.specs.Bool.{Decides}
use Rattle.std.specs.List.{list_any, range_with_len, IsDistinct, AllByRecursion}
use Rattle.std.proofs.lemmas.Bool.{false≢true, cases_Bool, or_parts, eq-eqb, ne_eqb, cases_lt}
use Rattle.std.proofs.lemmas.List.{length-append, length-replicate, get_or_append_left, get_or-append_right, get_or-replicate, get_or_past}
use Rattle.std.proofs.lemmas.List.Sorted.{list_any-IsPermutation}
use Rattle.std.proofs.lemmas.Map.Keys.{IsDistinct-IsPermutation, IsDistinct-head, IsDistinct-tail, IsDistinct-cons}
use mathlib.Core.List.{map-map}
use Rattle.join_laws.specs.Locals.{AreMergedKeys, Local, Takes, at_key, merged, of_key}
use Rattle.join_laws.specs.Steps.{TookKeys, entering, index_in, resized, updated}
use Rattle.list_laws.proofs.Keys.{list_any-append, any_from, list_any-map, flips_false, no_repeat_from, same_self}
use Rattle.list_laws.proofs.Maps.{read_all}
use Rattle.list_laws.proofs.Ranges.{Each-range}
use Rattle.list_laws.specs.Ascending.{Rises}
use Rattle.list_laws.specs.Distinct.{NoRepeat, with_new}
use Rattle.list_laws.specs.Each.{Each}

distinct_nil : {K : Type 0} (E : K → K → Bool) → IsDistinct E []
unfolding IsDistinct
distinct_nil E = tt

module _ {K : Type 0} (E : K → K → Bool) (dec : (a b : K) → Decides (E a b) (a ≡ b)) where
  index_cons : (x : K) (xs : List K) (k : K) → E x k ≡ false → index_in E (x ∷ xs) k ≡ suc (index_in E xs k)
  index_cons x xs k h = rw h (omega arith)

  -- a key among distinct ones stands at its index
  pub index_at : (keys : List K) (g : ℕ) (d : K) → NoRepeat E keys → g < length keys → index_in E keys (get_or keys g d) ≡ g
  index_at [] g d n l = absurd (omega arith)
  index_at (x ∷ xs) zero d n l = rw (same_self E dec x) refl
  index_at (x ∷ xs) (suc g) d n l = index_cons x xs (get_or xs g d) (apart xs g n.0 (omega arith)) ∙ ap suc (index_at xs g d n.1 (omega arith))
    where
      apart : (ys : List K) (g : ℕ) → list_any (λ s. E s x) ys ≡ false → g < length ys → E x (get_or ys g d) ≡ false
      apart [] g h l = absurd (omega arith)
      apart (y ∷ ys) zero h l = flips_false E dec y x (or_parts (E y x) (list_any (λ s. E s x) ys) h).0
      apart (y ∷ ys) (suc g) h l = apart ys g (or_parts (E y x) (list_any (λ s. E s x) ys) h).1 (omega arith)

  pub index_below : (keys : List K) (k : K) → list_any (λ s. E s k) keys ≡ true → index_in E keys k < length keys
  index_below [] k h = absurd (false≢true h)
  index_below (x ∷ xs) k h = elim (cases_Bool (E x k)) [
    | inl same ↦ rw same (omega arith)
    | inr apart ↦ let rest = index_below xs k (rw apart at h) in rw (index_cons x xs k apart) (omega arith)
  ]

  pub at_index : (keys : List K) (k d : K) → list_any (λ s. E s k) keys ≡ true → get_or keys (index_in E keys k) d ≡ k
  at_index [] k d h = absurd (false≢true h)
  at_index (x ∷ xs) k d h = elim (cases_Bool (E x k)) [
    | inl same ↦ rw same ((dec x k).0 same)
    | inr apart ↦ rw (index_cons x xs k apart) (at_index xs k d (rw apart at h))
  ]

  -- an index is g exactly where the key is the one at g
  pub index_is : (keys : List K) (k d : K) (g : ℕ) → NoRepeat E keys → g < length keys → list_any (λ s. E s k) keys ≡ true → eqb (index_in E keys k) g ≡ E k (get_or keys g d)
  index_is keys k d g n l h = elim (cases_Bool (E k (get_or keys g d))) [
    | inl same ↦ rw same (eq-eqb (index_in E keys k) g (ap (index_in E keys) ((dec k (get_or keys g d)).0 same) ∙ index_at keys g d n l))
    | inr apart ↦ rw apart (ne_eqb (index_in E keys k) g (λ e. false≢true (sym apart ∙ (dec k (get_or keys g d)).1 (sym (at_index keys k d h) ∙ ap (λ i. get_or keys i d) e))))
  ]

  -- the items that enter a group by their keys' indexes are those of its key
  pub entering_are : {X : Type 0} (key : X → K) (keys : List K) (xs : List X) (g : ℕ) (d : K) → NoRepeat E keys → g < length keys → Each (λ x. list_any (λ s. E s (key x)) keys ≡ true) xs → entering (map (index_in E keys) (map key xs)) xs g ≡ of_key E key xs (get_or keys g d)
  entering_are key keys [] g d n l h = refl
  entering_are key keys (x ∷ xs) g d n l h = rw (index_is keys (key x) d g n l h.0) (elim (E (key x) (get_or keys g d)) as (λ v. map (λ p. p.1) (cond v ((index_in E keys (key x), x) ∷ filter (λ p. eqb p.0 g) (zip (map (index_in E keys) (map key xs)) xs)) (filter (λ p. eqb p.0 g) (zip (map (index_in E keys) (map key xs)) xs))) ≡ cond v (x ∷ of_key E key xs (get_or keys g d)) (of_key E key xs (get_or keys g d))) [
    | true ↦ ap (λ t. x ∷ t) (entering_are key keys xs g d n l h.1)
    | false ↦ entering_are key keys xs g d n l h.1
  ])

  -- a map over the indexes of keys is a map over the keys
  pub by_index : {V : Type 0} (keys : List K) (f : ℕ → V) (h : K → V) (d : K) → ((g : ℕ) → g < length keys → f g ≡ h (get_or keys g d)) → map f (range_with_len 0 (length keys)) ≡ map h keys
  by_index {V} keys f h d e = along (range_with_len 0 (length keys)) (Each-range _ 0 (length keys) (λ k l m. e k (omega arith))) ∙ sym (map-map h (λ g. get_or keys g d) (range_with_len 0 (length keys))) ∙ ap (map h) (read_all keys d)
    where
      along : (gs : List ℕ) → Each (λ g. f g ≡ h (get_or keys g d)) gs → map f gs ≡ map (λ g. h (get_or keys g d)) gs
      along [] c = refl
      along (g ∷ gs) c = ap₂ (λ a b. a ∷ b) c.0 (along gs c.1)

  -- keys that were put at the end
  pub more_keys : (old ks : List K) → (rest : List K) × (fold (with_new E) old ks ≡ old ++ rest)
  more_keys old [] = ([], sym (append-nil old))
  more_keys old (k ∷ ks) = elim (cases_Bool (list_any (λ s. E s k) old)) [
    | inl there ↦ let r = more_keys old ks in (r.0, ap (λ s. fold (with_new E) s ks) (kept there) ∙ r.1)
    | inr fresh ↦ let r = more_keys (old ++ k ∷ []) ks in (k ∷ r.0, ap (λ s. fold (with_new E) s ks) (added fresh) ∙ r.1 ∙ append_assoc old (k ∷ []) r.0)
  ]
    where
      kept : list_any (λ s. E s k) old ≡ true → with_new E old k ≡ old
      kept h = rw h refl

      added : list_any (λ s. E s k) old ≡ false → with_new E old k ≡ old ++ k ∷ []
      added h = rw h refl

  index_absent : (keys : List K) (k : K) → list_any (λ s. E s k) keys ≡ false → index_in E keys k ≡ length keys
  index_absent [] k h = refl
  index_absent (x ∷ xs) k h =
      let both = or_parts (E x k) (list_any (λ s. E s k) xs) h in
      index_cons x xs k both.0 ∙ ap suc (index_absent xs k both.1)

  index_append : (old rest : List K) (k : K) → list_any (λ s. E s k) old ≡ true → index_in E (old ++ rest) k ≡ index_in E old k
  index_append [] rest k h = absurd (false≢true h)
  index_append (x ∷ xs) rest k h = elim (cases_Bool (E x k)) [
    | inl same ↦ rw same refl
    | inr apart ↦ index_cons x (xs ++ rest) k apart ∙ ap suc (index_append xs rest k (rw apart at h)) ∙ sym (index_cons x xs k apart)
  ]

  no_repeat_front : (old rest : List K) → NoRepeat E (old ++ rest) → NoRepeat E old
  no_repeat_front [] rest n = tt
  no_repeat_front (x ∷ xs) rest n = ((or_parts (list_any (λ s. E s x) xs) (list_any (λ s. E s x) rest) (sym (list_any-append (λ s. E s x) xs rest) ∙ n.0)).0, no_repeat_front xs rest n.1)

  module _ {X V : Type 0} (key : X → K) (F : List X → V) (M : V → V → V) where
    -- a group's old state, at its index and by its key
    pub old_state : (old rest : List K) (values : List V) (g : ℕ) (d : K) → length values ≡ length old → NoRepeat E (old ++ rest) → g < length (old ++ rest) → get_or (resized (F []) values (length (old ++ rest))) g (F []) ≡ at_key E old values (get_or (old ++ rest) g d) (F [])
    old_state old rest values g d same n l = elim (cases_lt g (length old)) [
      | inl low ↦
          get_or_append_left values (replicate (length (old ++ rest) - length values) (F [])) (F []) g (omega arith)
          ∙ ap (λ i. get_or values i (F [])) (sym (ap (index_in E old) (get_or_append_left old rest d g low) ∙ index_at old g d (no_repeat_front old rest n) low))
      | inr high ↦
          get_or-append_right values (replicate (length (old ++ rest) - length values) (F [])) (length values) g (F []) refl (omega arith)
          ∙ get_or-replicate (length (old ++ rest) - length values) (g - length values) (F []) (F []) (omega arith)
          ∙ sym (ap (λ i. get_or values i (F [])) (index_absent old (get_or (old ++ rest) g d) (absent high)) ∙ get_or_past values (length old) (F []) (omega arith))
    ]
      where
        absent : length old ≤ g → list_any (λ s. E s (get_or (old ++ rest) g d)) old ≡ false
        absent high = elim (cases_Bool (list_any (λ s. E s (get_or (old ++ rest) g d)) old)) [
          | inl there ↦ absurd (
              let a = index_append old rest (get_or (old ++ rest) g d) there in
              let b = index_at (old ++ rest) g d n l in
              let c = index_below old (get_or (old ++ rest) g d) there in
              omega arith)
          | inr none ↦ none
        ]

    -- a local state after a grouper took the keys of a morsel and a reduction its items
    pub takes : (xs : List X) (l m : Local K V) (idxs : List ℕ) (d : K) → length l.values ≡ length l.keys → NoRepeat E l.keys → TookKeys E (map key xs) l.keys m.keys idxs → m.values ≡ updated F M idxs xs (resized (F []) l.values (length m.keys)) → Takes E key F M xs l m
    takes xs l m idxs d long n took are = record {
      keys_are = took.keys_are;
      values_are = are ∙ ap (λ k. map (λ g. M (get_or (resized (F []) l.values (length m.keys)) g (F [])) (F (entering idxs xs g))) (range_with_len 0 k)) long_new ∙ by_index m.keys _ (λ k. M (at_key E l.keys l.values k (F [])) (F (of_key E key xs k))) d (λ g h. ap₂ M (old g h) (ap F (ap (λ is. entering is xs g) took.idxs_are ∙ entering_are key m.keys xs g d apart h (members xs (λ k e. rw took.keys_are (any_from E dec l.keys (map key xs) k ∙ ap (λ b. list_any (λ s. E s k) l.keys || b) (list_any-map (λ s. E s k) key xs ∙ e) ∙ or_true (list_any (λ s. E s k) l.keys)))))));
    }
      where
        or_true : (b : Bool) → (b || true) ≡ true
        or_true true = refl
        or_true false = refl

        apart : NoRepeat E m.keys
        apart = rw took.keys_are (no_repeat_from E dec l.keys (map key xs) n)

        split : (rest : List K) × (m.keys ≡ l.keys ++ rest)
        split = let r = more_keys l.keys (map key xs) in (r.0, took.keys_are ∙ r.1)

        long_new : length (resized (F []) l.values (length m.keys)) ≡ length m.keys
        long_new =
            let a = length-append l.values (replicate (length m.keys - length l.values) (F [])) in
            let b = length-replicate (length m.keys - length l.values) (F []) in
            let c : length m.keys ≡ length l.keys + length split.0 = ap length split.1 ∙ length-append l.keys split.0 in
            omega arith

        old : (g : ℕ) → g < length m.keys → get_or (resized (F []) l.values (length m.keys)) g (F []) ≡ at_key E l.keys l.values (get_or m.keys g d) (F [])
        old g h = subst (λ (ks : List K). g < length ks → get_or (resized (F []) l.values (length ks)) g (F []) ≡ at_key E l.keys l.values (get_or ks g d) (F [])) (sym split.1) (old_state l.keys split.0 l.values g d long (subst (NoRepeat E) split.1 apart)) h

        members : (ys : List X) → ((k : K) → list_any (λ x. E (key x) k) ys ≡ true → list_any (λ s. E s k) m.keys ≡ true) → Each (λ x. list_any (λ s. E s (key x)) m.keys ≡ true) ys
        members [] h = tt
        members (y ∷ ys) h = (h (key y) (rw (same_self E dec (key y)) refl), members ys (λ k e. h k (rw e (or_true (E (key y) k)))))

  -- sorted keys are merged keys
  pub sorted_keys : (top : ℕ) (locals : List (Local K ℕ)) (keys sorted : List K) → NoRepeat E keys → ((k : K) → list_any (λ s. E s k) keys ≡ list_any (λ l. list_any (λ s. E s k) l.keys) locals) → IsPermutation keys sorted → Rises (merged E min top locals) sorted → AreMergedKeys E top locals sorted
  sorted_keys top locals keys sorted n members perm up = record {
    apart = back sorted (IsDistinct-IsPermutation E flips keys sorted perm (forth keys n));
    members = λ k. sym (list_any-IsPermutation (λ s. E s k) keys sorted perm) ∙ members k;
    rises = up;
  }
    where
      flips : (a b : K) → E a b ≡ E b a
      flips a b = elim (cases_Bool (E a b)) [
        | inl same ↦ same ∙ sym ((dec b a).1 (sym ((dec a b).0 same)))
        | inr apart ↦ apart ∙ sym (flips_false E dec a b apart)
      ]

      apart_from : (x : K) (ys : List K) → list_any (λ s. E s x) ys ≡ false → AllByRecursion (λ y. E x y ≡ false) ys
      apart_from x [] h = tt
      apart_from x (y ∷ ys) h = let both = or_parts (E y x) (list_any (λ s. E s x) ys) h in (flips_false E dec y x both.0, apart_from x ys both.1)

      forth : (ks : List K) → NoRepeat E ks → IsDistinct E ks
      forth [] h = distinct_nil E
      forth (k ∷ ks) h = IsDistinct-cons E k ks (apart_from k ks h.0) (forth ks h.1)

      none_from : (x : K) (ys : List K) → AllByRecursion (λ y. E x y ≡ false) ys → list_any (λ s. E s x) ys ≡ false
      none_from x [] h = refl
      none_from x (y ∷ ys) h = rw (flips_false E dec x y h.0, none_from x ys h.1) refl

      back : (ks : List K) → IsDistinct E ks → NoRepeat E ks
      back [] h = tt
      back (k ∷ ks) h = (none_from k ks (IsDistinct-head E k ks h), back ks (IsDistinct-tail E k ks h))
