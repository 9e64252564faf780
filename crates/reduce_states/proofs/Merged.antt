-- Merging states: associative, neutral on the state of nothing, and the state of two lists is the merge of their states.
use Rattle.std.proofs.Common.{◌≡◌, ◌≢◌, ℤ, pos, ◌+ℤ◌, Bool, true, false, Some, None, List, [], ◌∷◌, ◌++◌, All, IfSome, if◌then◌else◌, suc, refl, sym, ap, ◌∙◌, subst, arith}
use Rattle.std.proofs.Math.IntN.{+ℤ_comm, +ℤ_assoc, +ℤ_idl, +ℤ_idr}
use Rattle.std.specs.Ordering.{is_gt}
use Rattle.std.specs.Cmp.{IsTotalOrder}
use Rattle.std.proofs.lemmas.Cmp.{nat_cmp_total, on_total, back_total}
use Rattle.std.proofs.lemmas.List.Sums.{fold-append}
use Rattle.col_core.specs.declared.leaf.Leaf.{Leaf}
use Rattle.col_core.specs.declared.data_type.DataType.{DataType}
use Rattle.reduce_model.specs.declared.kind.ReductionKind.{ReductionKind}
use Rattle.reduce_model.specs.declared.kind.ReductionKind.TheVariants as kinds
use Rattle.reduce_states.specs.States.{Entry, State, unnumbered, by_number, amount, total, start, one, join, merge, after, state_of, IsState, Apart}
use Rattle.reduce_states.proofs.Order.{leaf_cmp_total, leaf_same, nat_same, least_by-assoc, least_by-comm}
use Rattle.reduce_states.proofs.Wrapped.{summed, summed-add_left, summed-add_right}

abbrev kept : Leaf → State
kept v = Some (unnumbered v)

pub by_number_total : IsTotalOrder by_number
by_number_total = on_total (λ (e : Entry). e.number) nat_cmp_total

merge-totals : (t : DataType) (a b : ℤ) → merge kinds.Sum t (total t a) (total t b) ≡ total t (a +ℤ b)
merge-totals t a b = ap kept (summed-add_left t a (amount (summed t b)) ∙ summed-add_right t a b)

-- ---- associative

join-assoc : (k : ReductionKind) (t : DataType) (a b c : Entry) → merge k t (join k t a b) (Some c) ≡ merge k t (Some a) (join k t b c)
join-assoc kinds.Sum t a b c =
    let x = amount a.value in
    let y = amount b.value in
    let z = amount c.value in
    ap kept (summed-add_left t (x +ℤ y) z ∙ ap (summed t) (+ℤ_assoc x y z) ∙ sym (summed-add_right t x (y +ℤ z)))
join-assoc kinds.Min t a b c = ap kept (least_by-assoc leaf_cmp_total a.value b.value c.value)
join-assoc kinds.Max t a b c = ap kept (least_by-assoc (back_total leaf_cmp_total) a.value b.value c.value)
join-assoc kinds.First t a b c = ap (λ (e : Entry). Some e) (least_by-assoc by_number_total a b c)
join-assoc kinds.Last t a b c = ap (λ (e : Entry). Some e) (sym (least_by-assoc (back_total by_number_total) c b a))

pub merge-none : (k : ReductionKind) (t : DataType) (a : State) → merge k t a None ≡ a
merge-none k t None = refl
merge-none k t (Some a) = refl

pub merge-assoc : (k : ReductionKind) (t : DataType) (a b c : State) → merge k t (merge k t a b) c ≡ merge k t a (merge k t b c)
merge-assoc k t None b c = refl
merge-assoc k t (Some a) None c = refl
merge-assoc k t (Some a) (Some b) None = merge-none k t (join k t a b)
merge-assoc k t (Some a) (Some b) (Some c) = join-assoc k t a b c

-- ---- states

pub IsState-merge : (k : ReductionKind) (t : DataType) (a b : State) → IsState k t a → IsState k t b → IsState k t (merge k t a b)
IsState-merge k t a b p q = record {
  left = sym (merge-assoc k t (start k t) a b) ∙ ap (λ (s : State). merge k t s b) p.left;
  right = merge-assoc k t a b (start k t) ∙ ap (merge k t a) q.right;
}

pub IsState-total : (t : DataType) (z : ℤ) → IsState kinds.Sum t (total t z)
IsState-total t z = record {
  left = merge-totals t (pos 0) z ∙ ap (total t) (+ℤ_idl z);
  right = merge-totals t z (pos 0) ∙ ap (total t) (+ℤ_idr z);
}

-- where the state of nothing is none, whatever there is is a state
pub IsState-plain : (k : ReductionKind) (t : DataType) (s : State) → start k t ≡ None → IsState k t s
IsState-plain k t s e = record {
  left = ap (λ (z : State). merge k t z s) e;
  right = ap (merge k t s) e ∙ merge-none k t s;
}

pub start-plain : (k : ReductionKind) (t : DataType) → k ≢ kinds.Sum → start k t ≡ None
start-plain kinds.Sum t n = absurd (n refl)
start-plain kinds.Min t n = refl
start-plain kinds.Max t n = refl
start-plain kinds.First t n = refl
start-plain kinds.Last t n = refl

pub IsState-start : (k : ReductionKind) (t : DataType) → IsState k t (start k t)
IsState-start kinds.Sum t = IsState-total t (pos 0)
IsState-start kinds.Min t = IsState-plain kinds.Min t None refl
IsState-start kinds.Max t = IsState-plain kinds.Max t None refl
IsState-start kinds.First t = IsState-plain kinds.First t None refl
IsState-start kinds.Last t = IsState-plain kinds.Last t None refl

pub IsState-one : (k : ReductionKind) (t : DataType) (e : Entry) → IsState k t (one k t e)
IsState-one kinds.Sum t e = IsState-total t (amount e.value)
IsState-one kinds.Min t e = IsState-plain kinds.Min t _ refl
IsState-one kinds.Max t e = IsState-plain kinds.Max t _ refl
IsState-one kinds.First t e = IsState-plain kinds.First t _ refl
IsState-one kinds.Last t e = IsState-plain kinds.Last t _ refl

pub IsState-after : (k : ReductionKind) (t : DataType) (s : State) (es : List Entry) → IsState k t s → IsState k t (after k t s es)
IsState-after k t s [] p = p
IsState-after k t s (e ∷ es) p = IsState-after k t (merge k t s (one k t e)) es (IsState-merge k t s (one k t e) p (IsState-one k t e))

pub IsState-state_of : (k : ReductionKind) (t : DataType) (es : List Entry) → IsState k t (state_of k t es)
IsState-state_of k t es = IsState-after k t (start k t) es (IsState-start k t)

-- ---- entries one by one, and all at once

pub after-is : (k : ReductionKind) (t : DataType) (s : State) (es : List Entry) → IsState k t s → after k t s es ≡ merge k t s (state_of k t es)
after-is k t s [] p = sym p.right
after-is k t s (e ∷ es) p =
    let here = IsState-one k t e in
    after-is k t (merge k t s (one k t e)) es (IsState-merge k t s (one k t e) p here)
    ∙ merge-assoc k t s (one k t e) (state_of k t es)
    ∙ ap (merge k t s) (sym (after-is k t (one k t e) es here) ∙ ap (λ (z : State). after k t z es) (sym here.left))

pub state_of-append : (k : ReductionKind) (t : DataType) (xs ys : List Entry) → state_of k t (xs ++ ys) ≡ merge k t (state_of k t xs) (state_of k t ys)
state_of-append k t xs ys = fold-append (λ s e. merge k t s (one k t e)) (start k t) xs ys ∙ after-is k t (state_of k t xs) ys (IsState-state_of k t xs)

-- ---- either way round

merge-comm : (k : ReductionKind) (t : DataType) (a b : State) → ((x y : Entry) → a ≡ Some x → b ≡ Some y → join k t x y ≡ join k t y x) → merge k t a b ≡ merge k t b a
merge-comm k t None b h = sym (merge-none k t b)
merge-comm k t (Some a) None h = refl
merge-comm k t (Some a) (Some b) h = h a b refl refl

-- a first or a last state is one of the entries
abbrev IsByNumber : ReductionKind → Type 0
IsByNumber kinds.First = Unit {0}
IsByNumber kinds.Last = Unit {0}
IsByNumber _ = ⊥

chosen : (P : Entry → Type 0) (c : Bool) (a b : Entry) → P a → P b → P (if c then b else a)
chosen P true a b p q = q
chosen P false a b p q = p

among_step : (k : ReductionKind) (t : DataType) (P : Entry → Type 0) (s : State) (e : Entry) → IsByNumber k → IfSome s P → P e → IfSome (merge k t s (one k t e)) P
among_step kinds.First t P None e n p q = q
among_step kinds.Last t P None e n p q = q
among_step kinds.First t P (Some a) e n p q = chosen P (is_gt (by_number a e)) a e p q
among_step kinds.Last t P (Some a) e n p q = chosen P (is_gt (by_number a e)) e a q p
among_step kinds.Sum t P s e n p q = absurd n
among_step kinds.Min t P s e n p q = absurd n
among_step kinds.Max t P s e n p q = absurd n

among : (k : ReductionKind) (t : DataType) (P : Entry → Type 0) (s : State) (es : List Entry) → IsByNumber k → IfSome s P → All P es → IfSome (after k t s es) P
among k t P s [] n p all = p
among k t P s (e ∷ es) n p all = among k t P (merge k t s (one k t e)) es n (among_step k t P s e n p (all 0 e (omega arith))) (λ i d h. all (suc i) d (omega arith))

apart_states : (k : ReductionKind) (t : DataType) (xs ys : List Entry) (x y : Entry) → IsByNumber k → start k t ≡ None → Apart xs ys → state_of k t xs ≡ Some x → state_of k t ys ≡ Some y → x.number ≢ y.number
apart_states k t xs ys x y n none apart e f =
    let P : Entry → Type 0 = λ (x : Entry). All (λ y. x.number ≢ y.number) ys in
    let nothing : (P : Entry → Type 0) → IfSome (start k t) P = λ P. subst (λ (s : State). IfSome s P) (sym none) tt in
    let left : P x = subst (λ (s : State). IfSome s P) e (among k t P (start k t) xs n (nothing P) apart) in
    let Q : Entry → Type 0 = λ (y : Entry). x.number ≢ y.number in
    subst (λ (s : State). IfSome s Q) f (among k t Q (start k t) ys n (nothing Q) left)

pub state_of-comm : (k : ReductionKind) (t : DataType) (xs ys : List Entry) → Apart xs ys → merge k t (state_of k t xs) (state_of k t ys) ≡ merge k t (state_of k t ys) (state_of k t xs)
state_of-comm kinds.Sum t xs ys apart = merge-comm kinds.Sum t (state_of kinds.Sum t xs) (state_of kinds.Sum t ys) (λ a b e f. ap (total t) (+ℤ_comm (amount a.value) (amount b.value)))
state_of-comm kinds.Min t xs ys apart = merge-comm kinds.Min t (state_of kinds.Min t xs) (state_of kinds.Min t ys) (λ a b e f. ap kept (least_by-comm leaf_cmp_total a.value b.value (leaf_same a.value b.value)))
state_of-comm kinds.Max t xs ys apart = merge-comm kinds.Max t (state_of kinds.Max t xs) (state_of kinds.Max t ys) (λ a b e f. ap kept (least_by-comm (back_total leaf_cmp_total) a.value b.value (λ e. sym (leaf_same b.value a.value e))))
state_of-comm kinds.First t xs ys apart = merge-comm kinds.First t (state_of kinds.First t xs) (state_of kinds.First t ys) (λ a b e f. ap (λ (e : Entry). Some e) (least_by-comm by_number_total a b (λ g. absurd (apart_states kinds.First t xs ys a b tt refl apart e f (nat_same a.number b.number g)))))
state_of-comm kinds.Last t xs ys apart = merge-comm kinds.Last t (state_of kinds.Last t xs) (state_of kinds.Last t ys) (λ a b e f. ap (λ (e : Entry). Some e) (least_by-comm (back_total by_number_total) b a (λ g. absurd (apart_states kinds.Last t xs ys a b tt refl apart e f (nat_same a.number b.number g)))))
