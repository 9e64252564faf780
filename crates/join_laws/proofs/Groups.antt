-- The groups of morsels that local states took in any order are the groups of all rows.
use Rattle.std.proofs.Common.{◌≡◌, ℕ, ◌<◌, ◌≤◌, eqb, min, Bool, true, false, ◌||◌, List, [], ◌∷◌, ◌++◌, map, filter, flat_map, length, get_or, sym, ap, ◌∙◌, inl, inr, arith}
use Rattle.std.specs.Bool.{Decides}
use Rattle.std.specs.List.{list_any, range_with_len}
use Rattle.std.proofs.lemmas.Bool.{false≢true, cases_Bool, ne_eqb}
use Rattle.std.proofs.lemmas.List.Folds.{flat_map-map}
use Rattle.std.proofs.lemmas.List.Elements.{filter-append}
use mathlib.Core.List.{map-map}
use Rattle.join_laws.proofs.Entries.{ascends_all, morsel_entries, rises_all, rows_all, under_all}
use Rattle.join_laws.proofs.Locals.{merged_is, merged_members}
use Rattle.join_laws.specs.Locals.{AreMergedKeys, Entry, HoldAll, Local, all_entries, block, first_row, merged, of_key, rows_of_morsels}
use Rattle.list_laws.proofs.Ascending.{ascending_unique, ascends_distinct, ascends_from, least-append, Rises-agree, Rises-filter}
use Rattle.list_laws.proofs.Halves.{or_comm}
use Rattle.list_laws.proofs.Distinct.{any_distinct}
use Rattle.list_laws.proofs.Each.{Each-filter, Each-flat_map, Each-all, Each-weaker}
use Rattle.list_laws.proofs.Filters.{filter-map}
use Rattle.list_laws.proofs.Keys.{list_any-append, list_any-map, each_at}
use Rattle.list_laws.proofs.Maps.{map_agree}
use Rattle.list_laws.proofs.Orders.{any_schedule}
use Rattle.list_laws.specs.Ascending.{Ascends, Rises, least}
use Rattle.list_laws.specs.Distinct.{distinct}
use Rattle.list_laws.specs.Each.{Each}
use Rattle.list_laws.specs.Orders.{IsWhole, taken}

min_comm : (a b : ℕ) → min a b ≡ min b a
min_comm a b = omega arith

-- no number stands in both lists
abbrev pub AreApart : {R : Type 0} → List (Entry R) → List (Entry R) → Type 0
AreApart xs ys = Each (λ x. Each (λ y. eqb x.morsel y.morsel ≡ false) ys) xs

module _ {R K : Type 0} (E : K → K → Bool) (dec : (a b : K) → Decides (E a b) (a ≡ b)) (key : R → K) (ms : List (List R)) (n : ℕ) (order : List ℕ) (some : 0 < n) (whole : IsWhole (length ms) order) where
  -- what each of the local states has taken
  abbrev pub taken_entries : List (List (Entry R))
  taken_entries = map (λ s. flat_map (block ms) (taken n order s)) (range_with_len 0 n)

  abbrev pub entry_key : Entry R → K
  entry_key e = key e.row

  module _ {V : Type 0} (G : Entry R → Type 0) (good : (i : ℕ) → Each G (block ms i)) (F : List (Entry R) → V) (M : V → V → V) (hom : (xs ys : List (Entry R)) → Each G xs → Each G ys → F (xs ++ ys) ≡ M (F xs) (F ys)) (apart : (xs ys : List (Entry R)) → Each G xs → Each G ys → AreApart xs ys → M (F xs) (F ys) ≡ M (F ys) (F xs)) where
    good_taken : (ss : List ℕ) → Each (Each G) (map (λ s. flat_map (block ms) (taken n order s)) ss)
    good_taken [] = tt
    good_taken (s ∷ ss) = (Each-flat_map G (block ms) (taken n order s) (Each-all _ _ good), good_taken ss)

    apart_blocks : (p : Entry R → Bool) (i j : ℕ) → (i ≡ j → ⊥) → AreApart (filter p (block ms i)) (filter p (block ms j))
    apart_blocks p i j ne = Each-weaker (λ (x : Entry R). x.morsel ≡ i) _ (filter p (block ms i)) (λ x hx. Each-weaker (λ (y : Entry R). y.morsel ≡ j) (λ (y : Entry R). eqb x.morsel y.morsel ≡ false) (filter p (block ms j)) (λ y hy. ne_eqb x.morsel y.morsel (λ e. ne (sym hx ∙ e ∙ hy))) (Each-filter (λ (y : Entry R). y.morsel ≡ j) p (block ms j) (morsel_entries j (first_row ms j) (get_or ms j [])))) (Each-filter (λ (x : Entry R). x.morsel ≡ i) p (block ms i) (morsel_entries i (first_row ms i) (get_or ms i [])))

    -- the value of the entries that pass a test does not see the schedule
    pub passed : (p : Entry R → Bool) → F (filter p (flat_map (λ xs. xs) taken_entries)) ≡ F (filter p (all_entries ms))
    passed p =
        ap (λ es. F (filter p es)) (flat_map-map (λ (xs : List (Entry R)). xs) (λ s. flat_map (block ms) (taken n order s)) (range_with_len 0 n))
        ∙ any_schedule (block ms) G good (λ xs. F (filter p xs)) M
        (λ xs ys gx gy. ap F (filter-append p xs ys) ∙ hom (filter p xs) (filter p ys) (Each-filter G p xs gx) (Each-filter G p ys gy))
        (λ i j ne. let gi = Each-filter G p (block ms i) (good i) in let gj = Each-filter G p (block ms j) (good j) in
        ap F (filter-append p (block ms i) (block ms j)) ∙ hom (filter p (block ms i)) (filter p (block ms j)) gi gj ∙ apart (filter p (block ms i)) (filter p (block ms j)) gi gj (apart_blocks p i j ne) ∙ sym (hom (filter p (block ms j)) (filter p (block ms i)) gj gi) ∙ ap F (sym (filter-append p (block ms j) (block ms i))))
        n (length ms) order some whole

    -- the merged value of a key is that of its rows, in the order of their numbers
    pub merged_value : (ls : List (Local K V)) (k : K) → HoldAll E entry_key F taken_entries ls → merged E M (F []) ls k ≡ F (of_key E entry_key (all_entries ms) k)
    merged_value ls k h = merged_is E dec entry_key G F M hom taken_entries ls k (good_taken (range_with_len 0 n)) h ∙ passed (λ e. E (entry_key e) k)

  any_entry : (E' : Entry R → Bool) → list_any E' (flat_map (λ xs. xs) taken_entries) ≡ list_any E' (all_entries ms)
  any_entry p =
      ap (list_any p) (flat_map-map (λ (xs : List (Entry R)). xs) (λ s. flat_map (block ms) (taken n order s)) (range_with_len 0 n))
      ∙ any_schedule (block ms) (λ e. Unit {0}) (λ i. Each-all _ (block ms i) (λ e. tt)) (list_any p) (λ a b. a || b)
      (λ xs ys gx gy. list_any-append p xs ys)
      (λ i j ne. list_any-append p (block ms i) (block ms j) ∙ or_comm (list_any p (block ms i)) (list_any p (block ms j)) ∙ sym (list_any-append p (block ms j) (block ms i)))
      n (length ms) order some whole

  keys_all : map entry_key (all_entries ms) ≡ map key (rows_of_morsels ms)
  keys_all = sym (map-map key (λ (e : Entry R). e.row) (all_entries ms)) ∙ ap (map key) (rows_all ms)

  -- the keys of the local states, by least first row, are the keys of all rows by first appearance
  pub merged_keys : (top : ℕ) (firsts : List (Local K ℕ)) (keys : List K) → length (rows_of_morsels ms) ≤ top → HoldAll E entry_key (least top (λ e. e.number)) taken_entries firsts → AreMergedKeys E top firsts keys → keys ≡ distinct E (map key (rows_of_morsels ms))
  merged_keys top firsts keys small holds are = ascending_unique E dec first keys target up_keys up_target members ∙ ap (distinct E) keys_all
    where
      first : K → ℕ
      first k = least top (λ (e : Entry R). e.number) (of_key E entry_key (all_entries ms) k)

      target : List K
      target = distinct E (map entry_key (all_entries ms))

      at_first : (k : K) → merged E min top firsts k ≡ first k
      at_first k = merged_value (λ e. Unit {0}) (λ i. Each-all _ (block ms i) (λ e. tt)) (least top (λ e. e.number)) min (λ xs ys gx gy. least-append top (λ e. e.number) xs ys) (λ xs ys gx gy a. min_comm (least top (λ e. e.number) xs) (least top (λ e. e.number) ys)) firsts k holds

      up_target : Ascends first target
      up_target = ascends_distinct E dec entry_key (λ (e : Entry R). e.number) top (all_entries ms) (ascends_all ms) (Each-weaker (λ (e : Entry R). e.number < length (rows_of_morsels ms)) (λ (e : Entry R). e.number ≤ top) (all_entries ms) (λ e h. omega arith) (under_all ms))

      members : (k : K) → list_any (λ s. E s k) keys ≡ list_any (λ s. E s k) target
      members k = are.members k ∙ merged_members E dec entry_key (λ e. Unit {0}) (least top (λ e. e.number)) min (λ xs ys gx gy. least-append top (λ e. e.number) xs ys) taken_entries firsts k holds ∙ any_entry (λ e. E (entry_key e) k) ∙ sym (list_any-map (λ s. E s k) entry_key (all_entries ms)) ∙ sym (any_distinct E dec (map entry_key (all_entries ms)) k)

      injective : (ks : List K) → Ascends first ks → (a b : K) → list_any (λ s. E s a) ks ≡ true → list_any (λ s. E s b) ks ≡ true → first a ≡ first b → a ≡ b
      injective [] up a b ha hb e = absurd (false≢true ha)
      injective (x ∷ xs) up a b ha hb e = elim (cases_Bool (E x a)) [
        | inl sa ↦ elim (cases_Bool (E x b)) [
          | inl sb ↦ sym ((dec x a).0 sa) ∙ (dec x b).0 sb
          | inr nb ↦ absurd (
              let above : first x < first b = each_at E dec (λ y. first x < first y) xs b up.0 (rw nb at hb) in
              let at : first x ≡ first a = ap first ((dec x a).0 sa) in
              omega arith)
        ]
        | inr na ↦ elim (cases_Bool (E x b)) [
          | inl sb ↦ absurd (
              let above : first x < first a = each_at E dec (λ y. first x < first y) xs a up.0 (rw na at ha) in
              let at : first x ≡ first b = ap first ((dec x b).0 sb) in
              omega arith)
          | inr nb ↦ injective xs up.1 a b (rw na at ha) (rw nb at hb) e
        ]
      ]

      up_keys : Ascends first keys
      up_keys = ascends_from E dec first keys (Rises-agree (merged E min top firsts) first keys at_first are.rises) are.apart (λ a b ha hb e. injective target up_target a b (sym (members a) ∙ ha) (sym (members b) ∙ hb) e)

  -- one reduction's column of the merged groups is the plain fold of each group's rows
  module _ {V O : Type 0} (G : Entry R → Type 0) (good : (i : ℕ) → Each G (block ms i)) (F : List (Entry R) → V) (M : V → V → V) (hom : (xs ys : List (Entry R)) → Each G xs → Each G ys → F (xs ++ ys) ≡ M (F xs) (F ys)) (apart : (xs ys : List (Entry R)) → Each G xs → Each G ys → AreApart xs ys → M (F xs) (F ys) ≡ M (F ys) (F xs)) (out : V → O) (plain : List R → O) (outs : (xs : List (Entry R)) → Each G xs → Rises (λ (e : Entry R). e.morsel) xs → out (F xs) ≡ plain (map (λ (e : Entry R). e.row) xs)) where
    pub merged_out : (ls : List (Local K V)) (k : K) → HoldAll E entry_key F taken_entries ls → out (merged E M (F []) ls k) ≡ plain (filter (λ r. E (key r) k) (rows_of_morsels ms))
    merged_out ls k h =
        ap out (merged_value G good F M hom apart ls k h)
        ∙ outs (of_key E entry_key (all_entries ms) k) (Each-filter G (λ e. E (entry_key e) k) (all_entries ms) (Each-flat_map G (block ms) (range_with_len 0 (length ms)) (Each-all _ _ good))) (Rises-filter (λ (e : Entry R). e.morsel) (λ e. E (entry_key e) k) (all_entries ms) (rises_all ms))
        ∙ ap plain (sym (filter-map (λ r. E (key r) k) (λ (e : Entry R). e.row) (all_entries ms)) ∙ ap (filter (λ r. E (key r) k)) (rows_all ms))

    -- whole columns
    pub merged_column : (top : ℕ) (firsts : List (Local K ℕ)) (ls : List (Local K V)) (keys : List K) → length (rows_of_morsels ms) ≤ top → HoldAll E entry_key (least top (λ e. e.number)) taken_entries firsts → HoldAll E entry_key F taken_entries ls → AreMergedKeys E top firsts keys → map (λ k. out (merged E M (F []) ls k)) keys ≡ map (λ k. plain (filter (λ r. E (key r) k) (rows_of_morsels ms))) (distinct E (map key (rows_of_morsels ms)))
    merged_column top firsts ls keys small hf hl are = ap (map (λ k. out (merged E M (F []) ls k))) (merged_keys top firsts keys small hf are) ∙ map_agree _ _ (λ k. merged_out ls k hl) (distinct E (map key (rows_of_morsels ms)))
