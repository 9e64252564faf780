-- The numbers of a morsel that no local state has taken are fresh.
use Rattle.std.proofs.Common.{◌≡◌, ◌≢◌, ◌⊎◌, ℕ, zero, suc, ◌+◌, ◌<◌, ◌≤◌, ◌%◌, eqb, List, [], ◌∷◌, map, flat_map, length, get_or, take, zip, refl, sym, ap, ◌∙◌, subst, inl, inr, add-one, arith, bytes_eq}
use Rattle.std.proofs.lemmas.Bool.{cases_lt}
use Rattle.std.proofs.lemmas.List.{length-append, map-append}
use Rattle.col_core.specs.declared.leaf.Leaf.{Leaf}
use Rattle.reduce_states.specs.States.{State}
use Rattle.reduce_states.specs.Reductions.{Shape}
use Rattle.list_laws.specs.Each.{Each}
use Rattle.list_laws.specs.Orders.{taken}
use Rattle.list_laws.specs.Places.{EachFrom, IsIn}
use Rattle.list_laws.proofs.Each.{Each-append, Each-filter}
use Rattle.join_laws.specs.Locals.{Entry, block, first_row, of_key, rows_of_morsels}
use Rattle.group_locals.specs.declared.local.LocalState.{LocalState}
use Rattle.group_locals.specs.Rows.{KeyedRow, keyed_rows, entry_key, top, first_number}
use Rattle.group_locals.specs.Locals.{Grouping, LocalFits, AreFresh, kept}
use Rattle.group_locals.specs.History.{LocalHolds, LocalsHold, taken_by}
use Rattle.group_locals.proofs.Members.{Within, each_in, in_each}
use Rattle.group_locals.proofs.Sources.{Noted, first_in, noted, noted_range}
use Rattle.group_locals.proofs.Takes.{rows_long}

first_row_nil : (i : ℕ) → first_row {R = KeyedRow} [] i ≡ 0
first_row_nil zero = refl
first_row_nil (suc i) = refl

-- a morsel's rows come after those of a lower number
rows_before : (ms : List (List KeyedRow)) (j i : ℕ) → j < i → first_row ms j + length (get_or ms j []) ≤ first_row ms i
rows_before [] j i l = let a = first_row_nil j in let b = first_row_nil i in omega arith
rows_before (m ∷ ms) j zero l = absurd (omega arith)
rows_before (m ∷ ms) zero (suc i) l = let a = length-append m (rows_of_morsels (take i ms)) in omega arith
rows_before (m ∷ ms) (suc j) (suc i) l =
    let a = length-append m (rows_of_morsels (take i ms)) in
    let b = length-append m (rows_of_morsels (take j ms)) in
    let c = rows_before ms j i (omega arith) in
    omega arith

-- the rows of a morsel are among all
pub rows_within : (ms : List (List KeyedRow)) (i : ℕ) → first_row ms i + length (get_or ms i []) ≤ length (rows_of_morsels ms)
rows_within [] i = let a = first_row_nil i in omega arith
rows_within (m ∷ ms) zero = let a = length-append m (rows_of_morsels ms) in omega arith
rows_within (m ∷ ms) (suc i) =
    let a = length-append m (rows_of_morsels ms) in
    let b = length-append m (rows_of_morsels (take i ms)) in
    let c = rows_within ms i in
    omega arith

-- the first row of the next morsel
pub rows_next : (ms : List (List KeyedRow)) (i : ℕ) → i < length ms → first_row ms (i + 1) ≡ first_row ms i + length (get_or ms i [])
rows_next [] i l = absurd (omega arith)
rows_next (m ∷ ms) zero l = let a = length-append m [] in omega arith
rows_next (m ∷ ms) (suc i) l =
    let e : first_row (m ∷ ms) (suc i + 1) ≡ length m + first_row ms (i + 1) = ap (λ (n : ℕ). length (rows_of_morsels (take n (m ∷ ms)))) (add-one (suc i)) ∙ length-append m (rows_of_morsels (take (suc i) ms)) ∙ ap (λ (n : ℕ). length m + length (rows_of_morsels (take n ms))) (sym (add-one i)) in
    let b = length-append m (rows_of_morsels (take i ms)) in
    let c = rows_next ms i (omega arith) in
    omega arith

module _ (ms : List (List KeyedRow)) (i : ℕ) where
  -- a first row is none of the numbers of morsel i
  abbrev IsFresh : Noted → Type 0
  IsFresh p = (p.1 < first_row ms i) ⊎ (first_row ms i + length (get_or ms i []) ≤ p.1)

  block_fresh : (js : List ℕ) → Each (λ j. j ≢ i) js → Each IsFresh (map noted (flat_map (block ms) js))
  block_fresh [] ne = tt
  block_fresh (j ∷ js) ne = subst (Each IsFresh) (sym (map-append noted (block ms j) (flat_map (block ms) js))) (Each-append IsFresh (map noted (block ms j)) (map noted (flat_map (block ms) js)) (in_each IsFresh (map noted (block ms j)) (one j ne.0)) (block_fresh js ne.1))
    where
      one : (j : ℕ) → j ≢ i → (p : Noted) → IsIn p (map noted (block ms j)) → IsFresh p
      one j ne p h =
          let r = noted_range j (first_row ms j) (get_or ms j []) p h in
          elim (cases_lt j i) [
            | inl low ↦ let b = rows_before ms j i low in inl (omega (arith, r.1))
            | inr high ↦ let d : i < j = omega (arith, ne) in let b = rows_before ms i j d in inr (omega (arith, r.0))
          ]

-- what a local state keeps is of its entries
holds_source : {R : Type 0} (holds : R → List State → Type 0) (of : Grouping) (es : List (Entry KeyedRow)) (l : LocalState R) → Each (λ f. f < top) l.first_rows → LocalHolds holds of es l → Within (kept l) (map noted es)
holds_source holds of es l below h = subst (λ (fs : List ℕ). Within (zip l.grouper.keys fs) (map noted es)) (sym h.firsts_are) (along l.grouper.keys (subst (Each (λ f. f < top)) h.firsts_are below))
  where
    along : (ks : List (List ℕ)) → Each (λ f. f < top) (map (λ k. first_number (of_key bytes_eq entry_key es k)) ks) → Within (zip ks (map (λ k. first_number (of_key bytes_eq entry_key es k)) ks)) (map noted es)
    along [] b p i = absurd i
    along (k ∷ ks) b p i = elim i [
      | inl e ↦ subst (λ (q : Noted). IsIn q (map noted es)) (sym e) (first_in es k b.0)
      | inr r ↦ along ks b.1 p r
    ]

module _ {R : Type 0} (shape : R → Shape) (holds : R → List State → Type 0) (of : Grouping) (ms : List (List KeyedRow)) (n : ℕ) (seen : List ℕ) (i : ℕ) (other : Each (λ j. j ≢ i) seen) where
  fresh_from : (a : ℕ) (ls : List (LocalState R)) → Each (LocalFits shape of) ls → EachFrom (λ s l. LocalHolds holds of (taken_by ms n seen s) l) a ls → AreFresh (first_row ms i) (length (get_or ms i [])) (flat_map kept ls)
  fresh_from a [] fits h = tt
  fresh_from a (l ∷ ls) fits h =
      Each-append (IsFresh ms i) (kept l) (flat_map kept ls)
      (in_each (IsFresh ms i) (kept l) (λ p j. each_in (IsFresh ms i) (map noted (taken_by ms n seen a)) p (block_fresh ms i (taken n seen a) (Each-filter (λ (j : ℕ). j ≢ i) (λ j. eqb (j % n) a) seen other)) (holds_source holds of (taken_by ms n seen a) l fits.0.below h.0 p j)))
      (fresh_from (a + 1) ls fits.1 h.1)

  -- the numbers of a morsel that was not taken are fresh
  pub locals_fresh : (ls : List (LocalState R)) → Each (LocalFits shape of) ls → LocalsHold holds of ms n seen ls → AreFresh (first_row ms i) (length (get_or ms i [])) (flat_map kept ls)
  locals_fresh ls fits h = fresh_from 0 ls fits h

  -- the same for a morsel of keys and columns
  pub morsel_fresh : (keys : List (List ℕ)) (columns : List (List Leaf)) (first : ℕ) (ls : List (LocalState R)) → get_or ms i [] ≡ keyed_rows keys columns → first ≡ first_row ms i → Each (LocalFits shape of) ls → LocalsHold holds of ms n seen ls → AreFresh first (length keys) (flat_map kept ls)
  morsel_fresh keys columns first ls rows start fits h =
      subst (λ (k : ℕ). AreFresh k (length keys) (flat_map kept ls)) (sym start) (subst (λ (k : ℕ). AreFresh (first_row ms i) k (flat_map kept ls)) (ap length rows ∙ rows_long keys columns) (locals_fresh ls fits h))
