-- A value of blocks that joins, and does not see how two blocks stand, does not see their order.
use Rattle.std.proofs.Common.{◌≡◌, ℕ, ◌+◌, ◌<◌, ◌%◌, eqb, true, cond, List, [], ◌∷◌, ◌++◌, filter, flat_map, refl, sym, ap, ap₂, ◌∙◌, inl, inr, append-nil, mod-lt, arith}
use Rattle.std.specs.List.{list_any, range_with_len, count_by}
use Rattle.std.proofs.lemmas.Bool.{cases_Bool, eqb-true, eqb-false}
use Rattle.std.proofs.lemmas.List.Concat.{flat_map-append}
use Rattle.std.proofs.lemmas.List.Sums.{sum_by-cons}
use Rattle.list_laws.specs.Each.{Each}
use Rattle.list_laws.specs.Orders.{IsWhole, taken}
use Rattle.list_laws.proofs.Each.{Each-all, Each-flat_map}
use Rattle.list_laws.proofs.Maps.{flat_map-flat_map}
use Rattle.list_laws.proofs.Ranges.{eqb-Decides, range_apart, in_range, Each-range}
use Rattle.list_laws.proofs.Buckets.{all_bucketed}

-- what stands once
pub filter_none : (xs : List ℕ) (k : ℕ) → count_by (λ x. eqb x k) xs ≡ 0 → filter (λ x. eqb x k) xs ≡ []
filter_none [] k h = refl
filter_none (x ∷ xs) k h = elim (cases_Bool (eqb x k)) [
  | inl same ↦ absurd (let more : count_by (λ x. eqb x k) (x ∷ xs) ≡ 1 + count_by (λ x. eqb x k) xs = sum_by-cons (λ x. cond (eqb x k) 1 0) x xs ∙ rw same refl in omega arith)
  | inr apart ↦
      let same : count_by (λ x. eqb x k) (x ∷ xs) ≡ count_by (λ x. eqb x k) xs = sum_by-cons (λ x. cond (eqb x k) 1 0) x xs ∙ rw apart (omega arith) in
      rw apart (filter_none xs k (sym same ∙ h))
]

pub filter_once : (xs : List ℕ) (k : ℕ) → count_by (λ x. eqb x k) xs ≡ 1 → filter (λ x. eqb x k) xs ≡ k ∷ []
filter_once [] k h = absurd (omega arith)
filter_once (x ∷ xs) k h = elim (cases_Bool (eqb x k)) [
  | inl same ↦
      let more : count_by (λ x. eqb x k) (x ∷ xs) ≡ 1 + count_by (λ x. eqb x k) xs = sum_by-cons (λ x. cond (eqb x k) 1 0) x xs ∙ rw same refl in
      rw same (ap₂ (λ a t. a ∷ t) (eqb-true x k same) (filter_none xs k (omega arith)))
  | inr apart ↦
      let same : count_by (λ x. eqb x k) (x ∷ xs) ≡ count_by (λ x. eqb x k) xs = sum_by-cons (λ x. cond (eqb x k) 1 0) x xs ∙ rw apart (omega arith) in
      rw apart (filter_once xs k (sym same ∙ h))
]

module _ {X S : Type 0} (block : ℕ → List X) (G : X → Type 0) (good : (i : ℕ) → Each G (block i)) (F : List X → S) (M : S → S → S) (hom : (xs ys : List X) → Each G xs → Each G ys → F (xs ++ ys) ≡ M (F xs) (F ys)) (comm : (i j : ℕ) → (i ≡ j → ⊥) → F (block i ++ block j) ≡ F (block j ++ block i)) where
  abbrev pub of_blocks : List ℕ → S
  of_blocks is = F (flat_map block is)

  good_blocks : (is : List ℕ) → Each G (flat_map block is)
  good_blocks is = Each-flat_map G block is (Each-all (λ i. Each G (block i)) is good)

  hom_blocks : (is js : List ℕ) → Each (λ i. Unit {0}) is → Each (λ i. Unit {0}) js → of_blocks (is ++ js) ≡ M (of_blocks is) (of_blocks js)
  hom_blocks is js gi gj = ap F (flat_map-append block is js) ∙ hom (flat_map block is) (flat_map block js) (good_blocks is) (good_blocks js)

  swap_blocks : (i j : ℕ) → (i ≡ j → ⊥) → of_blocks (i ∷ j ∷ []) ≡ of_blocks (j ∷ i ∷ [])
  swap_blocks i j h = ap (λ t. F (block i ++ t)) (append-nil (block j)) ∙ comm i j h ∙ sym (ap (λ t. F (block j ++ t)) (append-nil (block i)))

  -- the morsels of a whole order
  pub in_order : (count : ℕ) (order : List ℕ) → IsWhole count order → of_blocks order ≡ of_blocks (range_with_len 0 count)
  in_order count order w =
      sym (all_bucketed (λ (i : ℕ). Unit {0}) of_blocks M hom_blocks eqb eqb-Decides (λ i. i) (λ i j gi gj h. swap_blocks i j (eqb-false i j h)) order (range_with_len 0 count) (Each-all _ order (λ i. tt)) (range_apart 0 count) (inside order w.below))
      ∙ ap of_blocks (one_each (range_with_len 0 count) (Each-range _ 0 count (λ k l m. filter_once order k (w.once k (omega arith)))))
    where
      inside : (is : List ℕ) → Each (λ x. x < count) is → Each (λ i. list_any (λ s. eqb s i) (range_with_len 0 count) ≡ true) is
      inside [] h = tt
      inside (i ∷ is) h = let below : i < count = h.0 in (in_range 0 count i (omega arith) (omega arith), inside is h.1)

      one_each : (cs : List ℕ) → Each (λ c. filter (λ x. eqb x c) order ≡ c ∷ []) cs → flat_map (λ c. filter (λ x. eqb x c) order) cs ≡ cs
      one_each [] h = refl
      one_each (c ∷ cs) h = ap₂ (λ a b. a ++ b) h.0 (one_each cs h.1)

  -- the morsels of all states, state by state
  pub by_state : (n : ℕ) (order : List ℕ) → 0 < n → of_blocks (flat_map (taken n order) (range_with_len 0 n)) ≡ of_blocks order
  by_state n order h =
      all_bucketed (λ (i : ℕ). Unit {0}) of_blocks M hom_blocks eqb eqb-Decides (λ i. i % n) (λ i j gi gj e. swap_blocks i j (λ same. eqb-false (i % n) (j % n) e (ap (λ k. k % n) same))) order (range_with_len 0 n) (Each-all _ order (λ i. tt)) (range_apart 0 n)
      (Each-all _ order (λ i. let small = mod-lt i h in in_range 0 n (i % n) (omega arith) (omega arith)))

  pub any_schedule : (n count : ℕ) (order : List ℕ) → 0 < n → IsWhole count order → F (flat_map (λ s. flat_map block (taken n order s)) (range_with_len 0 n)) ≡ F (flat_map block (range_with_len 0 count))
  any_schedule n count order h w = ap F (sym (flat_map-flat_map block (taken n order) (range_with_len 0 n))) ∙ by_state n order h ∙ in_order count order w
