-- The entries of all morsels: their rows, and their numbers, which rise.
use Rattle.std.proofs.Common.{◌≡◌, ℕ, suc, ◌+◌, ◌<◌, ◌≤◌, List, [], ◌∷◌, ◌++◌, map, flat_map, length, get_or, take, refl, sym, ap, ap₂, ◌∙◌, subst, append-nil, append_assoc, arith}
use Rattle.std.specs.List.{range_with_len}
use Rattle.std.proofs.lemmas.List.{map-append, take_at, get_or_at, length_push, length-append}
use Rattle.std.proofs.lemmas.List.Concat.{flat_map-append}
use Rattle.join_laws.specs.Locals.{Entry, all_entries, block, entries_from, rows_of_morsels}
use Rattle.list_laws.proofs.Ascending.{Ascends-append, Rises-append}
use Rattle.list_laws.proofs.Each.{Each-append, Each-weaker}
use Rattle.list_laws.specs.Ascending.{Ascends, Rises}
use Rattle.list_laws.specs.Each.{Each}

module _ {R : Type 0} where
  rows_entries : (m n : ℕ) (rs : List R) → map (λ (e : Entry R). e.row) (entries_from m n rs) ≡ rs
  rows_entries m n [] = refl
  rows_entries m n (r ∷ rs) = ap (λ t. r ∷ t) (rows_entries m (n + 1) rs)

  pub morsel_entries : (m n : ℕ) (rs : List R) → Each (λ (e : Entry R). e.morsel ≡ m) (entries_from m n rs)
  morsel_entries m n [] = tt
  morsel_entries m n (r ∷ rs) = (refl, morsel_entries m (n + 1) rs)

  rises_entries : (m n : ℕ) (rs : List R) → Rises (λ (e : Entry R). e.morsel) (entries_from m n rs)
  rises_entries m n [] = tt
  rises_entries m n (r ∷ rs) = (Each-weaker (λ (e : Entry R). e.morsel ≡ m) (λ (e : Entry R). m ≤ e.morsel) (entries_from m (n + 1) rs) (λ e h. omega arith) (morsel_entries m (n + 1) rs), rises_entries m (n + 1) rs)

  from_entries : (m n : ℕ) (rs : List R) → Each (λ (e : Entry R). n ≤ e.number) (entries_from m n rs)
  from_entries m n [] = tt
  from_entries m n (r ∷ rs) = (omega arith, Each-weaker (λ (e : Entry R). n + 1 ≤ e.number) (λ (e : Entry R). n ≤ e.number) (entries_from m (n + 1) rs) (λ e h. omega arith) (from_entries m (n + 1) rs))

  below_entries : (m n : ℕ) (rs : List R) → Each (λ (e : Entry R). e.number < n + length rs) (entries_from m n rs)
  below_entries m n [] = tt
  below_entries m n (r ∷ rs) = (omega arith, Each-weaker (λ (e : Entry R). e.number < n + 1 + length rs) (λ (e : Entry R). e.number < n + suc (length rs)) (entries_from m (n + 1) rs) (λ e h. omega arith) (below_entries m (n + 1) rs))

  ascends_entries : (m n : ℕ) (rs : List R) → Ascends (λ (e : Entry R). e.number) (entries_from m n rs)
  ascends_entries m n [] = tt
  ascends_entries m n (r ∷ rs) = (Each-weaker (λ (e : Entry R). n + 1 ≤ e.number) (λ (e : Entry R). n < e.number) (entries_from m (n + 1) rs) (λ e h. omega arith) (from_entries m (n + 1) rs), ascends_entries m (n + 1) rs)

  -- the same by recursion
  abbrev pub all_from : ℕ → ℕ → List (List R) → List (Entry R)
  all_from i n [] = []
  all_from i n (m ∷ ms) = entries_from i n m ++ all_from (i + 1) (n + length m) ms

  blocks_are : (a n : ℕ) (whole ps ms : List (List R)) → length ps ≡ a → length (rows_of_morsels ps) ≡ n → whole ≡ ps ++ ms → flat_map (block whole) (range_with_len a (length ms)) ≡ all_from a n ms
  blocks_are a n whole ps [] la ln e = refl
  blocks_are a n whole ps (m ∷ ms) la ln e =
      ap₂ (λ x y. x ++ y)
      (ap₂ (λ x y. entries_from a x y) (ap (λ w. length (rows_of_morsels (take a w))) e ∙ ap (λ ps. length (rows_of_morsels ps)) (take_at ps (m ∷ ms) a la) ∙ ln) (ap (λ w. get_or w a []) e ∙ get_or_at ps m ms [] a la))
      (blocks_are (a + 1) (n + length m) whole (ps ++ m ∷ []) ms (length_push ps m ∙ ap (λ k. k + 1) la) more (e ∙ sym (append_assoc ps (m ∷ []) ms)))
    where
      more : length (rows_of_morsels (ps ++ m ∷ [])) ≡ n + length m
      more = ap length (flat_map-append (λ (m : List R). m) ps (m ∷ []) ∙ ap (λ t. rows_of_morsels ps ++ t) (append-nil m)) ∙ length-append (rows_of_morsels ps) m ∙ ap (λ k. k + length m) ln

  all_entries_are : (ms : List (List R)) → all_entries ms ≡ all_from 0 0 ms
  all_entries_are ms = blocks_are 0 0 ms [] ms refl refl refl

  rows_from : (i n : ℕ) (ms : List (List R)) → map (λ (e : Entry R). e.row) (all_from i n ms) ≡ rows_of_morsels ms
  rows_from i n [] = refl
  rows_from i n (m ∷ ms) = map-append (λ (e : Entry R). e.row) (entries_from i n m) (all_from (i + 1) (n + length m) ms) ∙ ap₂ (λ x y. x ++ y) (rows_entries i n m) (rows_from (i + 1) (n + length m) ms)

  pub rows_all : (ms : List (List R)) → map (λ (e : Entry R). e.row) (all_entries ms) ≡ rows_of_morsels ms
  rows_all ms = ap (map (λ (e : Entry R). e.row)) (all_entries_are ms) ∙ rows_from 0 0 ms

  over_from : (i n : ℕ) (ms : List (List R)) → Each (λ (e : Entry R). n ≤ e.number) (all_from i n ms)
  over_from i n [] = tt
  over_from i n (m ∷ ms) = Each-append (λ (e : Entry R). n ≤ e.number) (entries_from i n m) (all_from (i + 1) (n + length m) ms) (from_entries i n m) (Each-weaker (λ (e : Entry R). n + length m ≤ e.number) (λ (e : Entry R). n ≤ e.number) _ (λ e h. omega arith) (over_from (i + 1) (n + length m) ms))

  under_from : (i n : ℕ) (ms : List (List R)) → Each (λ (e : Entry R). e.number < n + length (rows_of_morsels ms)) (all_from i n ms)
  under_from i n [] = tt
  under_from i n (m ∷ ms) =
      let long : length (rows_of_morsels (m ∷ ms)) ≡ length m + length (rows_of_morsels ms) = length-append m (rows_of_morsels ms) in
      Each-append (λ (e : Entry R). e.number < n + length (rows_of_morsels (m ∷ ms))) (entries_from i n m) (all_from (i + 1) (n + length m) ms)
      (Each-weaker (λ (e : Entry R). e.number < n + length m) (λ (e : Entry R). e.number < n + length (rows_of_morsels (m ∷ ms))) (entries_from i n m) (λ e h. omega arith) (below_entries i n m))
      (Each-weaker (λ (e : Entry R). e.number < n + length m + length (rows_of_morsels ms)) (λ (e : Entry R). e.number < n + length (rows_of_morsels (m ∷ ms))) _ (λ e h. omega arith) (under_from (i + 1) (n + length m) ms))

  ascends_all_from : (i n : ℕ) (ms : List (List R)) → Ascends (λ (e : Entry R). e.number) (all_from i n ms)
  ascends_all_from i n [] = tt
  ascends_all_from i n (m ∷ ms) = Ascends-append (λ (e : Entry R). e.number) (n + length m) (entries_from i n m) (all_from (i + 1) (n + length m) ms) (ascends_entries i n m) (ascends_all_from (i + 1) (n + length m) ms) (below_entries i n m) (over_from (i + 1) (n + length m) ms)

  pub ascends_all : (ms : List (List R)) → Ascends (λ (e : Entry R). e.number) (all_entries ms)
  ascends_all ms = subst (Ascends (λ (e : Entry R). e.number)) (sym (all_entries_are ms)) (ascends_all_from 0 0 ms)

  pub under_all : (ms : List (List R)) → Each (λ (e : Entry R). e.number < length (rows_of_morsels ms)) (all_entries ms)
  under_all ms = subst (Each (λ (e : Entry R). e.number < length (rows_of_morsels ms))) (sym (all_entries_are ms)) (Each-weaker (λ (e : Entry R). e.number < 0 + length (rows_of_morsels ms)) (λ (e : Entry R). e.number < length (rows_of_morsels ms)) _ (λ e h. omega arith) (under_from 0 0 ms))

  over_morsel : (i n : ℕ) (ms : List (List R)) → Each (λ (e : Entry R). i ≤ e.morsel) (all_from i n ms)
  over_morsel i n [] = tt
  over_morsel i n (m ∷ ms) = Each-append (λ (e : Entry R). i ≤ e.morsel) (entries_from i n m) (all_from (i + 1) (n + length m) ms) (Each-weaker (λ (e : Entry R). e.morsel ≡ i) (λ (e : Entry R). i ≤ e.morsel) _ (λ e h. omega arith) (morsel_entries i n m)) (Each-weaker (λ (e : Entry R). i + 1 ≤ e.morsel) (λ (e : Entry R). i ≤ e.morsel) _ (λ e h. omega arith) (over_morsel (i + 1) (n + length m) ms))

  rises_all_from : (i n : ℕ) (ms : List (List R)) → Rises (λ (e : Entry R). e.morsel) (all_from i n ms)
  rises_all_from i n [] = tt
  rises_all_from i n (m ∷ ms) = Rises-append (λ (e : Entry R). e.morsel) i (entries_from i n m) (all_from (i + 1) (n + length m) ms) (rises_entries i n m) (rises_all_from (i + 1) (n + length m) ms) (Each-weaker (λ (e : Entry R). e.morsel ≡ i) (λ (e : Entry R). e.morsel ≤ i) _ (λ e h. omega arith) (morsel_entries i n m)) (Each-weaker (λ (e : Entry R). i + 1 ≤ e.morsel) (λ (e : Entry R). i ≤ e.morsel) _ (λ e h. omega arith) (over_morsel (i + 1) (n + length m) ms))

  -- the morsels' numbers do not fall
  pub rises_all : (ms : List (List R)) → Rises (λ (e : Entry R). e.morsel) (all_entries ms)
  rises_all ms = subst (Rises (λ (e : Entry R). e.morsel)) (sym (all_entries_are ms)) (rises_all_from 0 0 ms)
