-- How many searches grouping and merging make, and keys under a code.
use Rattle.std.proofs.Common.{◌≡◌, ℕ, ◌+◌, ◌<◌, ◌≤◌, Bool, true, false, cond, List, [], ◌∷◌, ◌++◌, map, flat_map, fold, length, refl, sym, ap, ◌∙◌, inl, inr, arith}
use Rattle.std.specs.List.{list_any, range_with_len}
use Rattle.std.proofs.lemmas.Bool.{cases_Bool}
use Rattle.std.proofs.lemmas.List.{length-append, length-map, map-append}
use Rattle.join_laws.proofs.Entries.{rows_all}
use Rattle.join_laws.specs.Locals.{Entry, all_entries, block, rows_of_morsels}
use Rattle.list_laws.proofs.Each.{Each-append, Each-all}
use Rattle.list_laws.proofs.Orders.{any_schedule}
use Rattle.list_laws.specs.Distinct.{distinct, with_new}
use Rattle.list_laws.specs.Each.{Each}
use Rattle.list_laws.specs.Orders.{IsWhole, taken}

pub length-distinct_from : {K : Type 0} (E : K → K → Bool) (seen ks : List K) → length (fold (with_new E) seen ks) ≤ length seen + length ks
length-distinct_from E seen [] = omega arith
length-distinct_from E seen (k ∷ ks) =
    let rest = length-distinct_from E (with_new E seen k) ks in
    let here = one in
    omega arith
  where
    one : length (with_new E seen k) ≤ length seen + 1
    one = elim (list_any (λ s. E s k) seen) as (λ v. length (cond v seen (seen ++ k ∷ [])) ≤ length seen + 1) [
      | true ↦ omega arith
      | false ↦ let l = length-append seen (k ∷ []) in omega arith
    ]

pub length-distinct : {K : Type 0} (E : K → K → Bool) (ks : List K) → length (distinct E ks) ≤ length ks
length-distinct E ks = let h = length-distinct_from E [] ks in omega arith

-- the groups of all local states are no more than the rows that they took
pub all_groups : {R K : Type 0} (E : K → K → Bool) (key : R → K) (ms : List (List R)) (n : ℕ) (order : List ℕ) → 0 < n → IsWhole (length ms) order → length (flat_map (λ s. distinct E (map (λ (e : Entry R). key e.row) (flat_map (block ms) (taken n order s)))) (range_with_len 0 n)) ≤ length (rows_of_morsels ms)
all_groups {R} E key ms n order some whole =
    let parts = each (range_with_len 0 n) in
    let all : length (flat_map (λ s. flat_map (block ms) (taken n order s)) (range_with_len 0 n)) ≡ length (all_entries ms) = any_schedule (block ms) (λ (e : Entry R). Unit {0}) (λ i. Each-all _ (block ms i) (λ e. tt)) (λ (xs : List (Entry R)). length xs) (λ a b. a + b) (λ xs ys gx gy. length-append xs ys) (λ i j ne. length-append (block ms i) (block ms j) ∙ swap (length (block ms i)) (length (block ms j)) ∙ sym (length-append (block ms j) (block ms i))) n (length ms) order some whole in
    let rows : length (all_entries ms) ≡ length (rows_of_morsels ms) = sym (length-map (all_entries ms) (λ (e : Entry R). e.row)) ∙ ap length (rows_all ms) in
    omega arith
  where
    swap : (a b : ℕ) → a + b ≡ b + a
    swap a b = omega arith

    each : (ss : List ℕ) → length (flat_map (λ s. distinct E (map (λ (e : Entry R). key e.row) (flat_map (block ms) (taken n order s)))) ss) ≤ length (flat_map (λ s. flat_map (block ms) (taken n order s)) ss)
    each [] = omega arith
    each (s ∷ ss) =
        let rest = each ss in
        let a = length-append (distinct E (map (λ (e : Entry R). key e.row) (flat_map (block ms) (taken n order s)))) (flat_map (λ s. distinct E (map (λ (e : Entry R). key e.row) (flat_map (block ms) (taken n order s)))) ss) in
        let b = length-append (flat_map (block ms) (taken n order s)) (flat_map (λ s. flat_map (block ms) (taken n order s)) ss) in
        let c = length-distinct E (map (λ (e : Entry R). key e.row) (flat_map (block ms) (taken n order s))) in
        let d = length-map (flat_map (block ms) (taken n order s)) (λ (e : Entry R). key e.row) in
        omega arith

-- distinct keys under a code that keeps their difference
pub distinct-map : {J K : Type 0} (D : J → J → Bool) (E : K → K → Bool) (P : J → Type 0) (f : J → K) → ((a b : J) → P a → P b → E (f a) (f b) ≡ D a b) → (seen ks : List J) → Each P seen → Each P ks → fold (with_new E) (map f seen) (map f ks) ≡ map f (fold (with_new D) seen ks)
distinct-map D E P f same seen [] hs hk = refl
distinct-map {J} {K} D E P f same seen (k ∷ ks) hs hk = elim (cases_Bool (list_any (λ s. D s k) seen)) [
  | inl old ↦ ap (λ s. fold (with_new E) s (map f ks)) (kept_e (any seen hs ∙ old)) ∙ distinct-map D E P f same seen ks hs hk.1 ∙ ap (λ s. map f (fold (with_new D) s ks)) (sym (kept_d old))
  | inr fresh ↦ ap (λ s. fold (with_new E) s (map f ks)) (added_e (any seen hs ∙ fresh) ∙ sym (map-append f seen (k ∷ []))) ∙ distinct-map D E P f same (seen ++ k ∷ []) ks (Each-append P seen (k ∷ []) hs (hk.0, tt)) hk.1 ∙ ap (λ s. map f (fold (with_new D) s ks)) (sym (added_d fresh))
]
  where
    any : (xs : List J) → Each P xs → list_any (λ s. E s (f k)) (map f xs) ≡ list_any (λ s. D s k) xs
    any [] h = refl
    any (x ∷ xs) h = rw (same x k h.0 hk.0, any xs h.1) refl

    kept_e : list_any (λ s. E s (f k)) (map f seen) ≡ true → with_new E (map f seen) (f k) ≡ map f seen
    kept_e h = rw h refl

    added_e : list_any (λ s. E s (f k)) (map f seen) ≡ false → with_new E (map f seen) (f k) ≡ map f seen ++ f k ∷ []
    added_e h = rw h refl

    kept_d : list_any (λ s. D s k) seen ≡ true → with_new D seen k ≡ seen
    kept_d h = rw h refl

    added_d : list_any (λ s. D s k) seen ≡ false → with_new D seen k ≡ seen ++ k ∷ []
    added_d h = rw h refl
