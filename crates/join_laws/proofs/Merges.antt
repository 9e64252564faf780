-- One more local state merged.
use Rattle.std.proofs.Common.{◌≡◌, ℕ, suc, ◌+◌, ◌-◌, ◌<◌, Bool, true, false, ◌||◌, cond, List, [], ◌∷◌, ◌++◌, map, flat_map, fold, length, get_or, replicate, refl, sym, ap, ap₂, ◌∙◌, subst, inl, inr, append-nil, arith}
use Rattle.std.specs.Bool.{Decides}
use Rattle.std.specs.List.{list_any, range_with_len, position_or_len}
use Rattle.std.proofs.lemmas.Bool.{cases_Bool, or_parts}
use Rattle.std.proofs.lemmas.List.{length-map, length-append, length-replicate}
use Rattle.std.proofs.lemmas.List.Concat.{flat_map-append}
use Rattle.std.proofs.lemmas.List.Sums.{fold_push, fold-append}
use Rattle.join_laws.proofs.Locals.{at_key_map}
use Rattle.join_laws.proofs.Steps.{by_index, index_is, more_keys, old_state}
use Rattle.join_laws.specs.Locals.{Local, at_key, merge_one}
use Rattle.join_laws.specs.Steps.{MergedSoFar, TookKeys, combined, entering, index_in, resized}
use Rattle.list_laws.proofs.Distinct.{any_distinct}
use Rattle.list_laws.proofs.Keys.{list_any-append, any_from, distinct_apart, no_repeat_from, same_self}
use Rattle.list_laws.specs.Distinct.{NoRepeat, distinct, with_new}
use Rattle.list_laws.specs.Each.{Each}

any_flat_map : {A B : Type 0} (p : B → Bool) (f : A → List B) (xs : List A) → list_any p (flat_map f xs) ≡ list_any (λ x. list_any p (f x)) xs
any_flat_map p f [] = refl
any_flat_map p f (x ∷ xs) = list_any-append p (f x) (flat_map f xs) ∙ ap (λ b. list_any p (f x) || b) (any_flat_map p f xs)

module _ {K : Type 0} (E : K → K → Bool) (dec : (a b : K) → Decides (E a b) (a ≡ b)) {V : Type 0} (M : V → V → V) (empty : V) where
  pub merged_none : (done : List (Local K V)) (k : K) (v : V) → list_any (λ l. list_any (λ s. E s k) l.keys) done ≡ false → fold (merge_one E M empty k) v done ≡ v
  merged_none [] k v h = refl
  merged_none (l ∷ ls) k v h =
      let both = or_parts (list_any (λ s. E s k) l.keys) (list_any (λ l. list_any (λ s. E s k) l.keys) ls) h in
      ap (λ v. fold (merge_one E M empty k) v ls) (alone both.0) ∙ merged_none ls k v both.1
    where
      alone : list_any (λ s. E s k) l.keys ≡ false → merge_one E M empty k v l ≡ v
      alone e = rw e refl

  -- what enters a group from the groups of another grouper: at most one
  pub one_enters : (keys ks : List K) (vs : List V) (g : ℕ) (d : K) → NoRepeat E keys → g < length keys → NoRepeat E ks → length vs ≡ length ks → Each (λ k. list_any (λ s. E s k) keys ≡ true) ks → entering (map (index_in E keys) ks) vs g ≡ cond (list_any (λ s. E s (get_or keys g d)) ks) (at_key E ks vs (get_or keys g d) empty ∷ []) []
  one_enters keys [] vs g d n l ks_apart long h = refl
  one_enters keys (k ∷ ks) [] g d n l ks_apart long h = absurd (omega arith)
  one_enters keys (k ∷ ks) (v ∷ vs) g d n l ks_apart long h = rw (index_is E dec keys k d g n l h.0) (elim (cases_Bool (E k (get_or keys g d))) [
    | inl same ↦ rw same (ap (λ t. v ∷ t) (one_enters keys ks vs g d n l ks_apart.1 (omega arith) h.1 ∙ none same))
    | inr apart ↦ rw (apart, one) (one_enters keys ks vs g d n l ks_apart.1 (omega arith) h.1)
  ])
    where
      one : 1 + position_or_len (λ s. E s (get_or keys g d)) ks ≡ suc (position_or_len (λ s. E s (get_or keys g d)) ks)
      one = omega arith

      none : E k (get_or keys g d) ≡ true → cond (list_any (λ s. E s (get_or keys g d)) ks) (at_key E ks vs (get_or keys g d) empty ∷ []) [] ≡ []
      none same = ap (λ b. cond b (at_key E ks vs (get_or keys g d) empty ∷ []) []) (subst (λ (z : K). list_any (λ s. E s z) ks ≡ false) ((dec k (get_or keys g d)).0 same) ks_apart.0)

  -- the merge's step: the grouper takes the keys of a local state, and the column its values by their indexes
  pub merges_more : (done : List (Local K V)) (l : Local K V) (keys keys' : List K) (values values' : List V) (idxs : List ℕ) (d : K) → NoRepeat E l.keys → length l.values ≡ length l.keys → MergedSoFar E M empty done keys values → TookKeys E l.keys keys keys' idxs → values' ≡ combined empty M idxs l.values (resized empty values (length keys')) → MergedSoFar E M empty (done ++ l ∷ []) keys' values'
  merges_more done l keys keys' values values' idxs d n long so took are = record {
    keys_are = took.keys_are ∙ ap (λ ks. fold (with_new E) ks l.keys) so.keys_are ∙ sym (fold-append (with_new E) [] (flat_map (λ l. l.keys) done) l.keys) ∙ ap (distinct E) (sym (flat_map-append (λ (l : Local K V). l.keys) done (l ∷ []) ∙ ap (λ t. flat_map (λ l. l.keys) done ++ t) (append-nil l.keys)));
    values_are = are ∙ ap (λ k. map (λ g. fold M (get_or (resized empty values (length keys')) g empty) (entering idxs l.values g)) (range_with_len 0 k)) long_new ∙ by_index E dec keys' _ (λ k. fold (merge_one E M empty k) empty (done ++ l ∷ [])) d one;
  }
    where
      apart_old : NoRepeat E keys
      apart_old = rw so.keys_are (distinct_apart E dec (flat_map (λ l. l.keys) done))

      apart_new : NoRepeat E keys'
      apart_new = rw took.keys_are (no_repeat_from E dec keys l.keys apart_old)

      split : (rest : List K) × (keys' ≡ keys ++ rest)
      split = let r = more_keys E dec keys l.keys in (r.0, took.keys_are ∙ r.1)

      long_old : length values ≡ length keys
      long_old = ap length so.values_are ∙ length-map keys (λ k. fold (merge_one E M empty k) empty done)

      long_new : length (resized empty values (length keys')) ≡ length keys'
      long_new =
          let a = length-append values (replicate (length keys' - length values) empty) in
          let b = length-replicate (length keys' - length values) empty in
          let c : length keys' ≡ length keys + length split.0 = ap length split.1 ∙ length-append keys split.0 in
          let e = long_old in
          omega arith

      or_true : (b : Bool) → (b || true) ≡ true
      or_true true = refl
      or_true false = refl

      held : (ks : List K) → ((k : K) → list_any (λ s. E s k) ks ≡ true → list_any (λ s. E s k) keys' ≡ true) → Each (λ k. list_any (λ s. E s k) keys' ≡ true) ks
      held [] h = tt
      held (k ∷ ks) h = (h k (rw (same_self E dec k) refl), held ks (λ j e. h j (rw e (or_true (E k j)))))

      any_keys : (k : K) → list_any (λ s. E s k) keys ≡ list_any (λ l. list_any (λ s. E s k) l.keys) done
      any_keys k = ap (λ ks. list_any (λ s. E s k) ks) so.keys_are ∙ any_distinct E dec (flat_map (λ l. l.keys) done) k ∙ any_flat_map (λ s. E s k) (λ (l : Local K V). l.keys) done

      was : (k : K) → at_key E keys values k empty ≡ fold (merge_one E M empty k) empty done
      was k = ap (λ vs. at_key E keys vs k empty) so.values_are ∙ at_key_map E dec (λ k. fold (merge_one E M empty k) empty done) empty keys k (λ e. merged_none done k empty (sym (any_keys k) ∙ e))

      old : (g : ℕ) → g < length keys' → get_or (resized empty values (length keys')) g empty ≡ at_key E keys values (get_or keys' g d) empty
      old g h = subst (λ (ks : List K). g < length ks → get_or (resized empty values (length ks)) g empty ≡ at_key E keys values (get_or ks g d) empty) (sym split.1) (old_state E dec {X = K} (λ k. k) (λ (xs : List K). empty) M keys split.0 values g d long_old (subst (NoRepeat E) split.1 apart_new)) h

      merge_at : (v : V) (k : K) → fold M v (cond (list_any (λ s. E s k) l.keys) (at_key E l.keys l.values k empty ∷ []) []) ≡ merge_one E M empty k v l
      merge_at v k = elim (list_any (λ s. E s k) l.keys) as (λ b. fold M v (cond b (at_key E l.keys l.values k empty ∷ []) []) ≡ cond b (M v (at_key E l.keys l.values k empty)) v) [
        | true ↦ refl
        | false ↦ refl
      ]

      one : (g : ℕ) → g < length keys' → fold M (get_or (resized empty values (length keys')) g empty) (entering idxs l.values g) ≡ fold (merge_one E M empty (get_or keys' g d)) empty (done ++ l ∷ [])
      one g h =
          ap₂ (λ v vs. fold M v vs) (old g h ∙ was (get_or keys' g d)) (ap (λ is. entering is l.values g) took.idxs_are ∙ one_enters keys' l.keys l.values g d apart_new h n long (held l.keys (λ k e. rw took.keys_are (any_from E dec keys l.keys k ∙ ap (λ b. list_any (λ s. E s k) keys || b) e ∙ or_true (list_any (λ s. E s k) keys)))))
          ∙ merge_at (fold (merge_one E M empty (get_or keys' g d)) empty done) (get_or keys' g d)
          ∙ sym (fold_push (merge_one E M empty (get_or keys' g d)) empty done l)
