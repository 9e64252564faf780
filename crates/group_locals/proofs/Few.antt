-- The keys of all local states are few, since their first rows differ.
use Rattle.std.proofs.Common.{◌≡◌, ℕ, zero, suc, ◌+◌, ◌<◌, ◌≤◌, ◌^◌, min, true, false, List, [], ◌∷◌, ◌++◌, map, flat_map, fold, length, get_or, take, drop, refl, sym, ap, ◌∙◌, subst, inl, inr, arith, bytes_eq}
use Rattle.std.specs.List.{list_any}
use Rattle.std.proofs.lemmas.Bool.{cases_Bool, cases_lt, false≢true}
use Rattle.std.proofs.lemmas.List.{length-append, take-append-drop}
use Rattle.std.proofs.lemmas.List.Concat.{flat_map-append}
use Rattle.std.proofs.lemmas.List.Sums.{fold-append}
use Rattle.std.proofs.lemmas.Slice.Eq.{bytes_eq-Decides}
use Rattle.key_groups.specs.Groups.{with_keys}
use Rattle.reduce_states.specs.Reductions.{Shape}
use Rattle.list_laws.specs.Each.{Each}
use Rattle.list_laws.specs.Distinct.{distinct, with_new}
use Rattle.list_laws.specs.Places.{IsIn}
use Rattle.list_laws.proofs.Keys.{any_distinct, distinct_apart, list_any-append}
use Rattle.list_laws.proofs.Lists.{flat_map_front, flat_map_more}
use Rattle.join_laws.specs.Locals.{at_key, merge_one}
use Rattle.group_locals.specs.declared.local.LocalState.{LocalState}
use Rattle.group_locals.specs.Rows.{top}
use Rattle.group_locals.specs.Locals.{Grouping, LocalFits, LocalsFit, kept}
use Rattle.group_locals.specs.Merging.{first_column, keys_in}
use Rattle.group_locals.proofs.Counts.{count_keys}
use Rattle.group_locals.proofs.Members.{Within, within_left, within_right}
use Rattle.group_locals.proofs.Sources.{apart_at, apart_within, at_key_below, at_key_in}

each_front : {X : Type 0} (P : X → Type 0) (n : ℕ) (xs : List X) → Each P xs → Each P (take n xs)
each_front P zero [] h = tt
each_front P zero (x ∷ xs) h = tt
each_front P (suc n) [] h = tt
each_front P (suc n) (x ∷ xs) h = (h.0, each_front P n xs h.1)

module _ {R : Type 0} (shape : R → Shape) (of : Grouping) where
  -- the least first row of a key, from v on
  abbrev least_from : ℕ → List (LocalState R) → List ℕ → ℕ
  least_from v ls k = fold (merge_one bytes_eq min top k) v (map first_column ls)

  mine : LocalState R → List ℕ → ℕ
  mine l k = at_key bytes_eq l.grouper.keys l.first_rows k top

  there : (l : LocalState R) (ls : List (LocalState R)) (k : List ℕ) (v : ℕ) → list_any (λ s. bytes_eq s k) l.grouper.keys ≡ true → least_from v (l ∷ ls) k ≡ least_from (min v (at_key bytes_eq l.grouper.keys l.first_rows k top)) ls k
  there l ls k v h = ap (λ (w : ℕ). least_from w ls k) (step h)
    where
      step : list_any (λ s. bytes_eq s k) l.grouper.keys ≡ true → merge_one bytes_eq min top k v (first_column l) ≡ min v (at_key bytes_eq l.grouper.keys l.first_rows k top)
      step h = rw h refl

  absent : (l : LocalState R) (ls : List (LocalState R)) (k : List ℕ) (v : ℕ) → list_any (λ s. bytes_eq s k) l.grouper.keys ≡ false → least_from v (l ∷ ls) k ≡ least_from v ls k
  absent l ls k v h = ap (λ (w : ℕ). least_from w ls k) (step h)
    where
      step : list_any (λ s. bytes_eq s k) l.grouper.keys ≡ false → merge_one bytes_eq min top k v (first_column l) ≡ v
      step h = rw h refl

  least_most : (ls : List (LocalState R)) (k : List ℕ) (v : ℕ) → least_from v ls k ≤ v
  least_most [] k v = omega arith
  least_most (l ∷ ls) k v = elim (cases_Bool (list_any (λ s. bytes_eq s k) l.grouper.keys)) [
    | inl h ↦ let e = there l ls k v h in let r = least_most ls k (min v (at_key bytes_eq l.grouper.keys l.first_rows k top)) in omega arith
    | inr h ↦ let e = absent l ls k v h in let r = least_most ls k v in omega arith
  ]

  -- it is one of those that are kept
  least_in : (ls : List (LocalState R)) (k : List ℕ) (v : ℕ) → Each (LocalFits shape of) ls → v ≤ top → least_from v ls k < v → IsIn (k, least_from v ls k) (flat_map kept ls)
  least_in [] k v fits small less = absurd (omega arith)
  least_in (l ∷ ls) k v fits small less = elim (cases_Bool (list_any (λ s. bytes_eq s k) l.grouper.keys)) [
    | inl h ↦
        let a = at_key bytes_eq l.grouper.keys l.first_rows k top in
        let e = there l ls k v h in
        elim (cases_lt (least_from (min v a) ls k) (min v a)) [
          | inl low ↦ subst (λ (w : ℕ). IsIn (k, w) (kept l ++ flat_map kept ls)) (sym e) (within_right (kept l) (flat_map kept ls) (k, least_from (min v a) ls k) (least_in ls k (min v a) fits.1 (omega arith) low))
          | inr high ↦
              let most = least_most ls k (min v a) in
              let f : least_from v (l ∷ ls) k ≡ a = omega arith in
              subst (λ (w : ℕ). IsIn (k, w) (kept l ++ flat_map kept ls)) (sym f) (within_left (kept l) (flat_map kept ls) (k, a) (at_key_in l.grouper.keys l.first_rows k fits.0.long (omega arith)))
        ]
    | inr h ↦
        let e = absent l ls k v h in
        subst (λ (w : ℕ). IsIn (k, w) (kept l ++ flat_map kept ls)) (sym e) (within_right (kept l) (flat_map kept ls) (k, least_from v ls k) (least_in ls k v fits.1 small (omega arith)))
  ]

  least_below : (ls : List (LocalState R)) (k : List ℕ) (v : ℕ) → Each (LocalFits shape of) ls → list_any (λ s. bytes_eq s k) (keys_in ls) ≡ true → least_from v ls k < top
  least_below [] k v fits i = absurd (false≢true i)
  least_below (l ∷ ls) k v fits i = elim (cases_Bool (list_any (λ s. bytes_eq s k) l.grouper.keys)) [
    | inl h ↦
        let e = there l ls k v h in
        let r = least_most ls k (min v (at_key bytes_eq l.grouper.keys l.first_rows k top)) in
        let b = at_key_below l.grouper.keys l.first_rows k fits.0.long fits.0.below h in
        omega arith
    | inr h ↦
        let e = absent l ls k v h in
        let j = sym (list_any-append (λ s. bytes_eq s k) l.grouper.keys (keys_in ls)) ∙ i in
        let r = least_below ls k v fits.1 (rw h at j) in
        omega arith
  ]

  pub few_all : (ls : List (LocalState R)) → LocalsFit shape of ls → length (distinct bytes_eq (keys_in ls)) ≤ top
  few_all ls fits = count_keys bytes_eq bytes_eq-Decides (least_from top ls) top (distinct bytes_eq (keys_in ls)) (distinct_apart bytes_eq bytes_eq-Decides (keys_in ls)) (λ a b i j e. apart_at (flat_map kept ls) (a, least_from top ls a) (b, least_from top ls b) fits.apart (least_in ls a top fits.each (omega arith) (small a i)) (least_in ls b top fits.each (omega arith) (small b j)) e) small
    where
      small : (k : List ℕ) → list_any (λ s. bytes_eq s k) (distinct bytes_eq (keys_in ls)) ≡ true → least_from top ls k < top
      small k i = least_below ls k top fits.each (sym (any_distinct bytes_eq bytes_eq-Decides (keys_in ls) k) ∙ i)

  fit_front : (n : ℕ) (ls : List (LocalState R)) → LocalsFit shape of ls → LocalsFit shape of (take n ls)
  fit_front n ls fits = record {
    each = each_front (LocalFits shape of) n ls fits.each;
    apart = apart_within (flat_map kept (take n ls)) (flat_map kept ls) wider fits.apart;
  }
    where
      wider : Within (flat_map kept (take n ls)) (flat_map kept ls)
      wider p i = subst (IsIn p) (sym (flat_map-append kept (take n ls) (drop n ls)) ∙ ap (flat_map kept) (take-append-drop n ls)) (within_left (flat_map kept (take n ls)) (flat_map kept (drop n ls)) p i)

  -- a merge of the first local states has room for the keys of the next
  pub few_next : (ls : List (LocalState R)) (i : ℕ) (o : LocalState R) (now : List (List ℕ)) → LocalsFit shape of ls → i < length ls → o ≡ get_or ls i o → now ≡ distinct bytes_eq (keys_in (take i ls)) → length (with_keys now o.grouper.keys) < 2 ^ 32
  few_next ls i o now fits l e so =
      let few = few_all (take (i + 1) ls) (fit_front (i + 1) ls fits) in
      let same : with_keys now o.grouper.keys ≡ distinct bytes_eq (keys_in (take (i + 1) ls)) = ap (λ (z : List (List ℕ)). with_keys z o.grouper.keys) so ∙ sym (fold-append (with_new bytes_eq) [] (keys_in (take i ls)) o.grouper.keys) ∙ ap (distinct bytes_eq) (sym (flat_map_more (λ (l : LocalState R). l.grouper.keys) ls i o e l)) in
      let n = ap length same in
      omega arith

  pub length-keys_next : (ls : List (LocalState R)) (i : ℕ) (o : LocalState R) → i < length ls → o ≡ get_or ls i o → length (keys_in (take (i + 1) ls)) ≡ length (keys_in (take i ls)) + length o.grouper.keys
  length-keys_next ls i o l e = ap length (flat_map_more (λ (l : LocalState R). l.grouper.keys) ls i o e l) ∙ length-append (keys_in (take i ls)) o.grouper.keys

  pub length-keys_front : (ls : List (LocalState R)) (n : ℕ) → length (keys_in (take n ls)) ≤ length (keys_in ls)
  length-keys_front ls n = flat_map_front (λ (l : LocalState R). l.grouper.keys) ls n
