-- Items that enter groups one by one, and what each group has at the end.
use Rattle.std.proofs.Common.{◌≡◌, ℕ, zero, suc, ◌+◌, ◌-◌, ◌<◌, ◌≤◌, eqb, Bool, true, false, ◌||◌, cond, List, [], ◌∷◌, ◌++◌, map, fold, length, get_or, set, replicate, refl, sym, ap, ◌∙◌, subst, inl, inr, arith, bytes_eq}
use Rattle.std.specs.List.{range_with_len, list_any}
use Rattle.std.proofs.lemmas.Bool.{cases_Bool, eqb-true, eqb-false}
use Rattle.std.proofs.lemmas.List.{length-map, length-set, get_or-set_same, get_or-set_other, take_all, length-append, length-replicate}
use Rattle.std.proofs.lemmas.Slice.Eq.{bytes_eq-Decides}
use Rattle.list_laws.specs.Each.{Each}
use Rattle.list_laws.specs.Distinct.{NoRepeat}
use Rattle.list_laws.proofs.Each.{Each-append, Each-map}
use Rattle.list_laws.proofs.Lists.{map_same}
use Rattle.list_laws.proofs.Keys.{any_from, same_self}
use Rattle.list_laws.proofs.Maps.{read_all}
use Rattle.list_laws.proofs.Ranges.{Each-range}
use Rattle.reduce_states.specs.Moves.{entered, cut_or_filled}
use Rattle.join_laws.specs.Locals.{Entry}
use Rattle.join_laws.specs.Steps.{TookKeys, combined, entering, index_in, resized, updated}
use Rattle.join_laws.proofs.Steps.{index_below, more_keys, takes}
use Rattle.group_locals.specs.Rows.{KeyedRow, entry_key}
use Rattle.group_locals.specs.Locals.{taken_values}

module _ {V : Type 0} (d : V) where
  -- what a group has after one was set
  get_set : (xs : List V) (g j : ℕ) (v : V) → g < length xs → get_or (set xs g v) j d ≡ cond (eqb g j) v (get_or xs j d)
  get_set xs g j v l = elim (cases_Bool (eqb g j)) [
    | inl same ↦ rw same (subst (λ (k : ℕ). get_or (set xs g v) k d ≡ v) (eqb-true g j same) (get_or-set_same xs g v d l))
    | inr apart ↦ rw apart (get_or-set_other xs g j v d (λ e. eqb-false g j apart (sym e)))
  ]

  each_replicate : (P : V → Type 0) (n : ℕ) → P d → Each P (replicate n d)
  each_replicate P zero h = tt
  each_replicate P (suc n) h = (h, each_replicate P n h)

  each_or : (P : V → Type 0) (xs : List V) (g : ℕ) → P d → Each P xs → P (get_or xs g d)
  each_or P [] g p h = p
  each_or P (x ∷ xs) zero p h = h.0
  each_or P (x ∷ xs) (suc g) p h = each_or P xs g p h.1

  map_range : (f h : ℕ → V) (n : ℕ) → ((g : ℕ) → g < n → f g ≡ h g) → map f (range_with_len 0 n) ≡ map h (range_with_len 0 n)
  map_range f h n e = map_same f h (range_with_len 0 n) (Each-range (λ (g : ℕ). f g ≡ h g) 0 n (λ k l m. e k (omega arith)))

  filled_is : (xs : List V) (n : ℕ) → length xs ≤ n → cut_or_filled d xs n ≡ resized d xs n
  filled_is xs n l = ap (λ (ys : List V). ys ++ replicate (n - length xs) d) (take_all n xs l)

  length-resized : (xs : List V) (n : ℕ) → length xs ≤ n → length (resized d xs n) ≡ n
  length-resized xs n l = let a = length-append xs (replicate (n - length xs) d) in let b = length-replicate (n - length xs) d in omega arith

  entering_map : {X : Type 0} (one : X → V) (gs : List ℕ) (es : List X) (g : ℕ) → entering gs (map one es) g ≡ map one (entering gs es g)
  entering_map one [] es g = refl
  entering_map one (i ∷ gs) [] g = refl
  entering_map {X} one (i ∷ gs) (e ∷ es) g = elim (cases_Bool (eqb i g)) [
    | inl same ↦ rw same (ap (λ (t : List V). one e ∷ t) (entering_map one gs es g))
    | inr apart ↦ rw apart (entering_map one gs es g)
  ]

  module _ (M : V → V → V) where
    -- each group has, at the end, all that entered it, in order
    pub entered_is : (xs : List V) (gs : List ℕ) (ys : List V) → Each (λ g. g < length xs) gs → entered d M xs gs ys ≡ combined d M gs ys xs
    entered_is xs [] ys h = sym (read_all xs d)
    entered_is xs (g ∷ gs) [] h = sym (read_all xs d)
    entered_is xs (g ∷ gs) (y ∷ ys) h =
        entered_is (set xs g v) gs ys (subst (λ (n : ℕ). Each (λ i. i < n) gs) (sym (length-set xs g v)) h.1)
        ∙ ap (λ n. map (λ j. fold M (get_or (set xs g v) j d) (entering gs ys j)) (range_with_len 0 n)) (length-set xs g v)
        ∙ map_range (λ j. fold M (get_or (set xs g v) j d) (entering gs ys j)) (λ j. fold M (get_or xs j d) (entering (g ∷ gs) (y ∷ ys) j)) (length xs) (λ j l. ap (λ (w : V). fold M w (entering gs ys j)) (get_set xs g j v h.0) ∙ step j)
      where
        v : V
        v = M (get_or xs g d) y

        step : (j : ℕ) → fold M (cond (eqb g j) v (get_or xs j d)) (entering gs ys j) ≡ fold M (get_or xs j d) (entering (g ∷ gs) (y ∷ ys) j)
        step j = elim (cases_Bool (eqb g j)) [
          | inl same ↦ rw same (ap (λ (i : ℕ). fold M (M (get_or xs i d) y) (entering gs ys j)) (eqb-true g j same))
          | inr apart ↦ rw apart refl
        ]

-- the indexes of keys that came are below the number of keys
pub took_inside : (given old new : List (List ℕ)) (idxs : List ℕ) → TookKeys bytes_eq given old new idxs → Each (λ g. g < length new) idxs
took_inside given old new idxs took =
    subst (Each (λ g. g < length new)) (sym took.idxs_are) (Each-map (λ g. g < length new) (index_in bytes_eq new) given (inside given (λ k e. rw took.keys_are (any_from bytes_eq bytes_eq-Decides old given k ∙ rw e (or_true (list_any (λ s. bytes_eq s k) old))))))
  where
    or_true : (b : Bool) → (b || true) ≡ true
    or_true true = refl
    or_true false = refl

    inside : (ks : List (List ℕ)) → ((k : List ℕ) → list_any (λ s. bytes_eq s k) ks ≡ true → list_any (λ s. bytes_eq s k) new ≡ true) → Each (λ k. index_in bytes_eq new k < length new) ks
    inside [] h = tt
    inside (k ∷ ks) h = (index_below bytes_eq bytes_eq-Decides new k (h k (rw (same_self bytes_eq bytes_eq-Decides k) refl)), inside ks (λ j e. h j (rw e (or_true (bytes_eq k j)))))

pub length-took : (given old new : List (List ℕ)) (idxs : List ℕ) → TookKeys bytes_eq given old new idxs → length idxs ≡ length given
length-took given old new idxs took = ap length took.idxs_are ∙ length-map given (index_in bytes_eq new)

-- there are no fewer keys than before
pub took_more : (given old new : List (List ℕ)) (idxs : List ℕ) → TookKeys bytes_eq given old new idxs → length old ≤ length new
took_more given old new idxs took =
    let r = more_keys bytes_eq bytes_eq-Decides old given in
    let e : length new ≡ length old + length r.0 = ap length (took.keys_are ∙ r.1) ∙ length-append old r.0 in
    omega arith

-- a column, with room for all keys, that items entered one by one
module _ {V : Type 0} (d : V) (M : V → V → V) where
  pub entered_combined : (given old new : List (List ℕ)) (idxs : List ℕ) (xs ys : List V) → TookKeys bytes_eq given old new idxs → length xs ≡ length old → entered d M (cut_or_filled d xs (length new)) idxs ys ≡ combined d M idxs ys (resized d xs (length new))
  entered_combined given old new idxs xs ys took long =
      let l : length xs ≤ length new = let b = took_more given old new idxs took in omega arith in
      ap (λ (zs : List V). entered d M zs idxs ys) (filled_is d xs (length new) l)
      ∙ entered_is d M (resized d xs (length new)) idxs ys (subst (λ (k : ℕ). Each (λ g. g < k) idxs) (sym (length-resized d xs (length new) l)) (took_inside given old new idxs took))

-- a column that the items of entries entered: P is what a value is that takes items one by one as it takes the value of all of them
module _ {V : Type 0} (M : V → V → V) (F : List (Entry KeyedRow) → V) (one : Entry KeyedRow → V) (P : V → Type 0) (fit : (v : V) (es : List (Entry KeyedRow)) → P v → fold M v (map one es) ≡ M v (F es)) (good : P (F [])) where
  combined_updated : (gs : List ℕ) (es : List (Entry KeyedRow)) (xs : List V) → Each P xs → combined (F []) M gs (map one es) xs ≡ updated F M gs es xs
  combined_updated gs es xs h =
      map_range (F []) (λ g. fold M (get_or xs g (F [])) (entering gs (map one es) g)) (λ g. M (get_or xs g (F [])) (F (entering gs es g))) (length xs) (λ g l.
      ap (fold M (get_or xs g (F []))) (entering_map (F []) one gs es g) ∙ fit (get_or xs g (F [])) (entering gs es g) (each_or (F []) P xs g good h))

  pub column_takes : (old new : List (List ℕ)) (es : List (Entry KeyedRow)) (idxs : List ℕ) (xs : List V) → NoRepeat bytes_eq old → TookKeys bytes_eq (map entry_key es) old new idxs → length xs ≡ length old → Each P xs → entered (F []) M (cut_or_filled (F []) xs (length new)) idxs (map one es) ≡ taken_values F M old xs es new
  column_takes old new es idxs xs apart took long states =
      let ys = resized (F []) xs (length new) in
      entered_combined (F []) M (map entry_key es) old new idxs xs (map one es) took long
      ∙ combined_updated idxs es ys (Each-append P xs (replicate (length new - length xs) (F [])) states (each_replicate (F []) P (length new - length xs) good))
      ∙ (takes bytes_eq bytes_eq-Decides entry_key F M es (record { keys = old; values = xs }) (record { keys = new; values = updated F M idxs es ys }) idxs [] long apart took refl).values_are
