-- The indexes of keys, while keys come.
use Rattle.std.proofs.Common.{◌≡◌, ℕ, zero, suc, ◌+◌, ◌<◌, ◌≤◌, ◌⊎◌, Result, Ok, Err, OnErr, nat_lt, not, Bool, true, false, ◌||◌, cond, List, [], ◌∷◌, ◌++◌, map, fold, length, take, get_or, Some, None, refl, sym, ap, ap₂, ◌∙◌, subst, inl, inr, bytes_eq, arith}
use Rattle.std.specs.Prelude.{position}
use Rattle.std.specs.Bool.{Decides}
use Rattle.std.specs.List.{list_any, position_or_len}
use Rattle.std.proofs.lemmas.Bool.{cases_Bool, false≢true, or_parts, ltb-true, ltb-false}
use Rattle.std.proofs.lemmas.List.{map-append, length-append, take_more}
use Rattle.std.proofs.lemmas.List.Sums.{fold_push}
use Rattle.std.proofs.lemmas.Slice.Eq.{bytes_eq-Decides}
use Rattle.list_laws.specs.Distinct.{with_new}
use Rattle.list_laws.proofs.Keys.{any_from, same_self, flips_false}
use Rattle.key_groups.specs.Taken.{index_in, TookKeys, TookFront}

module _ {K : Type 0} (E : K → K → Bool) (dec : (a b : K) → Decides (E a b) (a ≡ b)) where
  index_cons : (x : K) (xs : List K) (k : K) → E x k ≡ false → index_in E (x ∷ xs) k ≡ suc (index_in E xs k)
  index_cons x xs k h = rw h (omega arith)

  index_below : (keys : List K) (k : K) → list_any (λ s. E s k) keys ≡ true → index_in E keys k < length keys
  index_below [] k h = absurd (false≢true h)
  index_below (x ∷ xs) k h = elim (cases_Bool (E x k)) [
    | inl same ↦ rw same (omega arith)
    | inr apart ↦ let rest = index_below xs k (rw apart at h) in rw (index_cons x xs k apart) (omega arith)
  ]

  index_absent : (keys : List K) (k : K) → list_any (λ s. E s k) keys ≡ false → index_in E keys k ≡ length keys
  index_absent [] k h = refl
  index_absent (x ∷ xs) k h =
      let both = or_parts (E x k) (list_any (λ s. E s k) xs) h in
      index_cons x xs k both.0 ∙ ap suc (index_absent xs k both.1)

  -- a key that is there keeps its index
  index_push : (keys : List K) (n k : K) → list_any (λ s. E s k) keys ≡ true → index_in E (keys ++ n ∷ []) k ≡ index_in E keys k
  index_push [] n k h = absurd (false≢true h)
  index_push (x ∷ xs) n k h = elim (cases_Bool (E x k)) [
    | inl same ↦ rw same refl
    | inr apart ↦ index_cons x (xs ++ n ∷ []) k apart ∙ ap suc (index_push xs n k (rw apart at h)) ∙ sym (index_cons x xs k apart)
  ]

  index_kept : (keys : List K) (n k : K) → list_any (λ s. E s k) keys ≡ true → index_in E (with_new E keys n) k ≡ index_in E keys k
  index_kept keys n k h = elim (list_any (λ s. E s n) keys) as (λ b. index_in E (cond b keys (keys ++ n ∷ [])) k ≡ index_in E keys k) [
    | true ↦ refl
    | false ↦ index_push keys n k h
  ]

  -- a new key stands at the end
  index_new : (keys : List K) (k : K) → list_any (λ s. E s k) keys ≡ false → index_in E (keys ++ k ∷ []) k ≡ length keys
  index_new [] k h = rw (same_self E dec k) refl
  index_new (x ∷ xs) k h =
      let both = or_parts (E x k) (list_any (λ s. E s k) xs) h in
      index_cons x (xs ++ k ∷ []) k both.0 ∙ ap suc (index_new xs k both.1)

  or_true : (b : Bool) → (b || true) ≡ true
  or_true true = refl
  or_true false = refl

  all_kept : (new : List K) (k : K) (ks : List K) → ((j : K) → list_any (λ s. E s j) ks ≡ true → list_any (λ s. E s j) new ≡ true) → map (index_in E (with_new E new k)) ks ≡ map (index_in E new) ks
  all_kept new k [] h = refl
  all_kept new k (x ∷ xs) h = ap₂ (λ (a : ℕ) (b : List ℕ). a ∷ b) (index_kept new k x (h x (rw (same_self E dec x) refl))) (all_kept new k xs (λ j g. h j (rw g (or_true (E x j)))))

  -- one more key came
  took_more : (old ks new newer : List K) (is js : List ℕ) (k : K) → TookKeys E ks old new is → newer ≡ with_new E new k → js ≡ is ++ index_in E newer k ∷ [] → TookKeys E (ks ++ k ∷ []) old newer js
  took_more old ks new newer is js k took en ej =
      let there : (j : K) → list_any (λ s. E s j) ks ≡ true → list_any (λ s. E s j) new ≡ true = λ j h.
      ap (list_any (λ s. E s j)) took.keys_are ∙ any_from E dec old ks j ∙ ap (λ (b : Bool). list_any (λ s. E s j) old || b) h ∙ or_true (list_any (λ s. E s j) old) in
      record {
        keys_are = en ∙ ap (λ (z : List K). with_new E z k) took.keys_are ∙ sym (fold_push (with_new E) old ks k);
        idxs_are = ej ∙ ap₂ (λ (xs : List ℕ) (x : ℕ). xs ++ x ∷ []) (took.idxs_are ∙ sym (all_kept new k ks there) ∙ ap (λ (z : List K). map (index_in E z) ks) (sym en)) refl ∙ sym (map-append (index_in E newer) ks (k ∷ []));
      }

  pub took_next : (old ks new newer : List K) (is js : List ℕ) (k d : K) (i : ℕ) → i < length ks → k ≡ get_or ks i d → TookKeys E (take i ks) old new is → newer ≡ with_new E new k → js ≡ is ++ index_in E newer k ∷ [] → TookKeys E (take (i + 1) ks) old newer js
  took_next old ks new newer is js k d i lt at took en ej =
      subst (λ (z : List K). TookKeys E z old newer js) (ap (λ (x : K). take i ks ++ x ∷ []) at ∙ sym (take_more ks i d lt)) (took_more old (take i ks) new newer is js k took en ej)

  -- keys are never lost
  grows : (old ks : List K) → length old ≤ length (fold (with_new E) old ks)
  grows old [] = omega arith
  grows old (k ∷ ks) =
      let rest = grows (with_new E old k) ks in
      let here = one old k in
      omega (arith, rest, here)
    where
      one : (old : List K) (k : K) → length old ≤ length (with_new E old k)
      one old k = elim (list_any (λ s. E s k) old) as (λ b. length old ≤ length (cond b old (old ++ k ∷ []))) [
        | true ↦ omega arith
        | false ↦ omega (arith, length-append old (k ∷ []))
      ]

  -- a front part makes no more keys than all
  few_front : (old ks : List K) (i : ℕ) → length (fold (with_new E) old (take i ks)) ≤ length (fold (with_new E) old ks)
  few_front old ks zero = grows old ks
  few_front old [] (suc i) = omega arith
  few_front old (k ∷ ks) (suc i) = few_front (with_new E old k) ks i

  pub few_next : (old ks new : List K) (is : List ℕ) (k d : K) (i n : ℕ) → i < length ks → k ≡ get_or ks i d → TookKeys E (take i ks) old new is → length (fold (with_new E) old ks) < n → length (with_new E new k) < n
  few_next old ks new is k d i n lt at took few =
      let whole : with_new E new k ≡ fold (with_new E) old (take (i + 1) ks) = ap₂ (with_new E) took.keys_are at ∙ sym (fold_push (with_new E) old (take i ks) (get_or ks i d)) ∙ ap (fold (with_new E) old) (sym (take_more ks i d lt)) in
      omega (arith, ap length whole, few_front old ks (i + 1), few)

-- ---- keys of bytes

swap : (a b : List ℕ) → bytes_eq a b ≡ bytes_eq b a
swap a b = elim (cases_Bool (bytes_eq a b)) [
  | inl same ↦ same ∙ sym ((bytes_eq-Decides b a).1 (sym ((bytes_eq-Decides a b).0 same)))
  | inr apart ↦ apart ∙ sym (flips_false bytes_eq bytes_eq-Decides a b apart)
]

or_len_swapped : (keys : List (List ℕ)) (k : List ℕ) → position_or_len (bytes_eq k) keys ≡ index_in bytes_eq keys k
or_len_swapped [] k = refl
or_len_swapped (x ∷ xs) k = ap₂ (λ (b : Bool) (n : ℕ). cond (not b) (1 + n) 0) (swap k x) (or_len_swapped xs k)

found_place : (n m i : ℕ) → cond (nat_lt n m) (Some n) None ≡ Some i → (i ≡ n) × (nat_lt n m ≡ true)
found_place n m i e = elim (nat_lt n m) as (λ b. cond b (Some n) None ≡ Some i → (i ≡ n) × (b ≡ true)) [
  | true ↦ λ h. (let f : n ≡ i = cc in sym f, refl)
  | false ↦ λ h. absurd (let no : None ≡ Some i = h in cc)
] e

no_place : (n m : ℕ) → cond (nat_lt n m) (Some n) None ≡ None → nat_lt n m ≡ false
no_place n m e = elim (nat_lt n m) as (λ b. cond b (Some n) None ≡ None → b ≡ false) [
  | true ↦ λ h. absurd (let no : Some n ≡ None = h in cc)
  | false ↦ λ h. refl
] e

-- a key that was found changes nothing, and its index is its place
pub old_key : (keys : List (List ℕ)) (key : List ℕ) (i : ℕ) → position (bytes_eq key) keys ≡ Some i → (with_new bytes_eq keys key ≡ keys) × (i ≡ index_in bytes_eq keys key)
old_key keys key i e =
    let n = position_or_len (bytes_eq key) keys in
    let p = found_place n (length keys) i e in
    elim (cases_Bool (list_any (λ s. bytes_eq s key) keys)) [
      | inl there ↦ (rw there refl, p.0 ∙ or_len_swapped keys key)
      | inr none ↦ absurd (omega (arith, ltb-true n (length keys) p.1, or_len_swapped keys key, index_absent bytes_eq bytes_eq-Decides keys key none))
    ]

-- a key that was not found goes to the end
pub new_key : (keys : List (List ℕ)) (key : List ℕ) → position (bytes_eq key) keys ≡ None → (with_new bytes_eq keys key ≡ keys ++ key ∷ []) × (length keys ≡ index_in bytes_eq (keys ++ key ∷ []) key)
new_key keys key e =
    let n = position_or_len (bytes_eq key) keys in
    elim (cases_Bool (list_any (λ s. bytes_eq s key) keys)) [
      | inl there ↦ absurd (omega (arith, ltb-false n (length keys) (no_place n (length keys) e), or_len_swapped keys key, index_below bytes_eq bytes_eq-Decides keys key there))
      | inr none ↦ (rw none refl, sym (index_new bytes_eq bytes_eq-Decides keys key none))
    ]

-- there is room for it
pub room_for_new : (keys : List (List ℕ)) (key : List ℕ) (n : ℕ) → position (bytes_eq key) keys ≡ None → length (with_new bytes_eq keys key) < n → length keys + 1 < n
room_for_new keys key n none few = omega (arith, ap length (new_key keys key none).0, length-append keys (key ∷ []), few)

-- ---- where a call was refused

pub on_err : {A E : Type 0} (r : Result A E) {P : Type 0} → P → OnErr r P
on_err (Ok x) p = tt
on_err (Err e) p = p

pub took_front : {K : Type 0} (E : K → K → Bool) (ks old new newer : List K) (is js : List ℕ) (i s t u : ℕ) → i < length ks → TookKeys E (take i ks) old new is → newer ≡ new → js ≡ is → t ≡ s + i → (u ≡ t) ⊎ (u ≡ t + 1) → TookFront E ks old newer js s u
took_front {K} E ks old new newer is js i s t u lt took en ej cost once = record {
  taken = i;
  some_left = lt;
  took = record { keys_are = en ∙ took.keys_are; idxs_are = ej ∙ took.idxs_are ∙ ap (λ (z : List K). map (index_in E z) (take i ks)) (sym en) };
  cost = elim once [ inl same ↦ inl (same ∙ cost) | inr one ↦ inr (one ∙ ap (λ n. n + 1) cost) ];
}
